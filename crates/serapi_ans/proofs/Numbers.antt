-- Numbers in decimal.
use Rattle.std.proofs.Common.{◌≡◌, ℕ, ◌+◌, ◌^◌, ◌<◌, ◌≤◌, ◌%◌, ◌/◌, ◌&&◌, ◌++◌, List, [], ◌∷◌, true, length, length-append, refl, sym}
use Rattle.std.proofs.Common.{◌∙◌, arith}
use Rattle.std.specs.Fmt.{decimal}
use Rattle.std.specs.List.{list_all}
use Rattle.std.proofs.lemmas.Fmt.{decimal_by_steps}
use Rattle.std.proofs.lemmas.List.Folds.{list_all-append}
use Rattle.std.proofs.lemmas.Bool.{agree_below_at, and_from}
use Rattle.sexp_theory.specs.Writing.{text, is_bare, is_bare_atom}
use Rattle.sexp_core.proofs.Putting.{bare_written}
use Rattle.serapi_ans.specs.Lines.{number}

bare_digit : (d : ℕ) → d < 10 → is_bare (48 + d) ≡ true
bare_digit d h = agree_below_at (λ d. is_bare (48 + d)) (λ _. true) 10 d refl h

-- digits that stand behind one another
abbrev AreBare : ℕ → List ℕ → Type 0
AreBare n ds = (list_all is_bare ds ≡ true) × (0 < length ds)

one_digit : (n : ℕ) → n < 10 → AreBare n ((48 + n) ∷ [])
one_digit n h = (and_from (is_bare (48 + n)) true (bare_digit n h) refl, omega arith)

more_digits : (n : ℕ) (ds : List ℕ) → 10 ≤ n → AreBare (n / 10) ds → AreBare n (ds ++ ((48 + n % 10) ∷ []))
more_digits n ds h w = (
  list_all-append is_bare ds ((48 + n % 10) ∷ []) ∙ and_from (list_all is_bare ds) (is_bare (48 + n % 10) && true) w.0
      (and_from (is_bare (48 + n % 10)) true (bare_digit (n % 10) (omega arith)) refl),
  omega (arith, length-append ds ((48 + n % 10) ∷ [])),
)

bare_of : (ds : List ℕ) → (list_all is_bare ds ≡ true) × (0 < length ds) → is_bare_atom ds ≡ true
bare_of [] w = absurd (omega (arith, w.1))
bare_of (d ∷ ds) w = w.0

-- the decimal text of a number is an atom without quotes
pub decimal_bare : (n : ℕ) → n < 2 ^ 64 → is_bare_atom (decimal n) ≡ true
decimal_bare n h = bare_of (decimal n) (decimal_by_steps AreBare one_digit more_digits n h)

pub number_text : (n : ℕ) → n < 2 ^ 64 → text (number n) ≡ decimal n
number_text n h = bare_written (decimal n) (sym (decimal_bare n h))
