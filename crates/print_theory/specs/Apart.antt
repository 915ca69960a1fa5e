-- Names that can't be taken for a variable: each name of a function, a predicate or a sort in a formula is taken, and is no variable's.
use Rattle.std.specs.Prelude.{◌≡◌, ℕ, List, true, false}
use Rattle.fol_theory.specs.Syntax.{Term, var, app, Terms, nil, cons, Formula, truth, falsity, pred, equal, both, either, implies, all, ex}
use Rattle.elab_theory.specs.Sentences.{is_among}

-- the name is taken, and no variable has it
abbrev pub IsApart : List (List ℕ) → List (List ℕ) → List ℕ → Type 0
IsApart names taken c = (is_among c names ≡ false) × (is_among c taken ≡ true)

-- so is each name of a term, and of terms
abbrev mutual
  pub IsApartTerm : List (List ℕ) → List (List ℕ) → Term → Type 0
  IsApartTerm names taken (var i) = Unit {0}
  IsApartTerm names taken (app f ts) = IsApart names taken f × AreApart names taken ts

  pub AreApart : List (List ℕ) → List (List ℕ) → Terms → Type 0
  AreApart names taken nil = Unit {0}
  AreApart names taken (cons t ts) = IsApartTerm names taken t × AreApart names taken ts

-- so is each name of a formula but for its printing names; the sort of an equation isn't printed
abbrev pub IsApartFormula : List (List ℕ) → List (List ℕ) → Formula → Type 0
IsApartFormula names taken truth = Unit {0}
IsApartFormula names taken falsity = Unit {0}
IsApartFormula names taken (pred p ts) = IsApart names taken p × AreApart names taken ts
IsApartFormula names taken (equal s t u) = IsApartTerm names taken t × IsApartTerm names taken u
IsApartFormula names taken (both a b) = IsApartFormula names taken a × IsApartFormula names taken b
IsApartFormula names taken (either a b) = IsApartFormula names taken a × IsApartFormula names taken b
IsApartFormula names taken (implies a b) = IsApartFormula names taken a × IsApartFormula names taken b
IsApartFormula names taken (all s x a) = IsApart names taken s × IsApartFormula names taken a
IsApartFormula names taken (ex s x a) = IsApart names taken s × IsApartFormula names taken a
