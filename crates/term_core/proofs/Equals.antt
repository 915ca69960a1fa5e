-- Equality of lists of terms, place by place.
use Rattle.std.proofs.Common.{◌≡◌, ℕ, zero, suc, ◌<◌, List, [], ◌∷◌, length, get_or, refl, ap, arith}
use Rattle.term_core.specs.Term.{meaning, list_meaning}
use Rattle.term_core.specs.declared.term.Term.{Term}
use Rattle.term_core.proofs.Applications.{meaning_App}

-- lists that stand for the same terms are equally long
pub same_length : (xs ys : List Term) → list_meaning xs ≡ list_meaning ys → length xs ≡ length ys
same_length [] [] e = refl
same_length [] (y ∷ ys) e = cc
same_length (x ∷ xs) [] e = cc
same_length (x ∷ xs) (y ∷ ys) e = ap suc (same_length xs ys cc)

-- and do so at each place
pub same_at : (xs ys : List Term) (i : ℕ) (a b : Term) → i < length xs → i < length ys → list_meaning xs ≡ list_meaning ys
    → meaning (get_or xs i a) ≡ meaning (get_or ys i b)
same_at [] ys i a b h k e = absurd (omega arith)
same_at (x ∷ xs) [] i a b h k e = absurd (omega arith)
same_at (x ∷ xs) (y ∷ ys) zero a b h k e = cc
same_at (x ∷ xs) (y ∷ ys) (suc i) a b h k e = same_at xs ys i a b (omega arith) (omega arith) cc

pub ruleset term_equals = (meaning_App)
