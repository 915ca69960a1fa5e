-- What is known of the value that bytes begin with: a word of a private call.
use Rattle.std.specs.Prelude.{◌≡◌, ◌≤◌, ℕ, List}
use Rattle.sexp_theory.specs.Values.{Value, nesting, HasBytes}
use Rattle.sexp_theory.specs.Places.{most_lists}
use Rattle.sexp_theory.specs.Written.{IsTextOf}

-- it may be written, and the bytes are the text of no other
pub record IsCandidate (bytes : List ℕ) (found : Value) : Type 0 where
  pub of_bytes : HasBytes found
  pub shallow : nesting found ≤ most_lists
  pub only : (v : Value) → IsTextOf bytes v → found ≡ v
