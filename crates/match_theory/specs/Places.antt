-- The places of a formula where terms stand, the first that is an instance, and a formula with a term abstracted.
use Rattle.std.specs.Prelude.{
  ◌≡◌,
  ℕ,
  zero,
  suc,
  Bool,
  true,
  false,
  ◌&&◌,
  ◌||◌,
  if◌then◌else◌,
  nat_lt,
  ◌==◌,
  List,
  [],
  ◌∷◌,
  ◌++◌,
  length,
  Option,
  Some,
  None,
}
use Rattle.fol_theory.specs.Syntax.{Term, var, app, Terms, nil, cons, Formula, truth, falsity, pred, equal, both, either, implies, all, ex}
use Rattle.fol_theory.specs.Substitution.{replace_term, shift_term}
use Rattle.match_theory.specs.Instances.{fill}
use Rattle.match_theory.specs.Matching.{and_then, same_term, lower, term_matches}

-- the terms in preorder, each with the number of binders above it
abbrev mutual
  pub term_places : ℕ → Term → List (ℕ × Term)
  term_places b (var i) = (b, var i) ∷ []
  term_places b (app f ts) = (b, app f ts) ∷ terms_places b ts

  pub terms_places : ℕ → Terms → List (ℕ × Term)
  terms_places b nil = []
  terms_places b (cons t ts) = term_places b t ++ terms_places b ts

-- the same of a formula
abbrev pub places : ℕ → Formula → List (ℕ × Term)
places b truth = []
places b falsity = []
places b (pred p ts) = terms_places b ts
places b (equal s t u) = term_places b t ++ term_places b u
places b (both a c) = places b a ++ places b c
places b (either a c) = places b a ++ places b c
places b (implies a c) = places b a ++ places b c
places b (all s x a) = places (suc b) a
places b (ex s x a) = places (suc b) a

-- the term at a place is the pattern with these terms, none of which has a variable bound above the place
abbrev pub IsPlaceInstance : ℕ → Term → ℕ × Term → List Term → Type 0
IsPlaceInstance n pattern w ts = (length ts ≡ n) × (shift_term 0 w.0 (replace_term (fill ts) pattern) ≡ w.1)

-- the terms with which the pattern is the term at the place
abbrev pub place_matches : ℕ → Term → ℕ × Term → Option (List Term)
place_matches n pattern w = and_then (lower w.0 w.1) (λ u. term_matches n pattern u)

-- the first answer, else the second
abbrev pub or_else : {A : Type 0} → Option A → Option A → Option A
or_else None y = y
or_else (Some x) y = Some x

-- the terms at the first place that is an instance
abbrev pub first_instance : ℕ → Term → List (ℕ × Term) → Option (List Term)
first_instance n pattern [] = None
first_instance n pattern (w ∷ ws) = or_else (place_matches n pattern w) (first_instance n pattern ws)

-- the terms at the first place of the goal
abbrev pub find_instance : ℕ → Term → Formula → Option (List Term)
find_instance n pattern goal = first_instance n pattern (places 0 goal)

-- no place of a list is an instance
abbrev pub NoInstance : ℕ → Term → List (ℕ × Term) → Type 0
NoInstance n pattern [] = Unit {0}
NoInstance n pattern (w ∷ ws) = ((us : List Term) → IsPlaceInstance n pattern w us → ⊥) × NoInstance n pattern ws

-- the terms are those of a place, and no place before it is an instance
pub record IsFirst (n : ℕ) (pattern : Term) (ws : List (ℕ × Term)) (ts : List Term) : Type 0 where
  pub before : List (ℕ × Term)
  pub place : ℕ × Term
  pub behind : List (ℕ × Term)
  pub whole : ws ≡ before ++ place ∷ behind
  pub is : IsPlaceInstance n pattern place ts
  pub none_before : NoInstance n pattern before

-- under b binders: each occurrence of the term w becomes a variable of its own, the first behind the binders
abbrev pub beyond : ℕ → ℕ → ℕ
beyond b i = if nat_lt i b then i else suc i

abbrev mutual
  pub abstract_term : ℕ → Term → Term → Term
  abstract_term b w (var i) = if same_term (var i) (shift_term 0 b w) then var b else var (beyond b i)
  abstract_term b w (app f ts) = if same_term (app f ts) (shift_term 0 b w) then var b else app f (abstract_terms b w ts)

  pub abstract_terms : ℕ → Term → Terms → Terms
  abstract_terms b w nil = nil
  abstract_terms b w (cons t ts) = cons (abstract_term b w t) (abstract_terms b w ts)

-- the same in a formula
abbrev pub abstracted : ℕ → Term → Formula → Formula
abstracted b w truth = truth
abstracted b w falsity = falsity
abstracted b w (pred p ts) = pred p (abstract_terms b w ts)
abstracted b w (equal s t u) = equal s (abstract_term b w t) (abstract_term b w u)
abstracted b w (both a c) = both (abstracted b w a) (abstracted b w c)
abstracted b w (either a c) = either (abstracted b w a) (abstracted b w c)
abstracted b w (implies a c) = implies (abstracted b w a) (abstracted b w c)
abstracted b w (all s x a) = all s x (abstracted (suc b) w a)
abstracted b w (ex s x a) = ex s x (abstracted (suc b) w a)

-- the variable stands in it, as a test
abbrev mutual
  pub occurs_in_term : ℕ → Term → Bool
  occurs_in_term i (var j) = i == j
  occurs_in_term i (app f ts) = occurs_in_terms i ts

  pub occurs_in_terms : ℕ → Terms → Bool
  occurs_in_terms i nil = false
  occurs_in_terms i (cons t ts) = occurs_in_term i t || occurs_in_terms i ts

-- the same in a formula
abbrev pub occurs : ℕ → Formula → Bool
occurs i truth = false
occurs i falsity = false
occurs i (pred p ts) = occurs_in_terms i ts
occurs i (equal s t u) = occurs_in_term i t || occurs_in_term i u
occurs i (both a b) = occurs i a || occurs i b
occurs i (either a b) = occurs i a || occurs i b
occurs i (implies a b) = occurs i a || occurs i b
occurs i (all s x a) = occurs (suc i) a
occurs i (ex s x a) = occurs (suc i) a

-- each variable below n does
abbrev pub all_below : ℕ → (ℕ → Bool) → Bool
all_below zero f = true
all_below (suc n) f = f n && all_below n f
