-- Pieces that are put one after another.
use Rattle.std.proofs.Common.{◌≡◌, ℕ, List, ◌++◌, Result, Ok, Err, OnOk, ap, ◌∙◌, append_assoc}

joined : (o x y : List ℕ) {p q : List ℕ} → p ≡ o ++ x → q ≡ p ++ y → q ≡ o ++ (x ++ y)
joined o x y {p} {q} a b = b ∙ ap (λ p. p ++ y) a ∙ append_assoc o x y

-- two pieces, of which the last may fail
pub joined_ok : {X E : Type 0} (o x y : List ℕ) {p : List ℕ} (q : List ℕ) (r : Result X E) → p ≡ o ++ x → OnOk r (q ≡ p ++ y)
    → OnOk r (q ≡ o ++ (x ++ y))
joined_ok o x y q (Ok v) a b = joined o x y a b
joined_ok o x y q (Err e) a b = tt
