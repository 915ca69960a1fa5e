-- The last byte of a list, and lists put together.
use Rattle.std.proofs.Common.{◌≡◌, ◌≢◌, ℕ, List, [], ◌∷◌, ◌++◌, refl, ap}

-- the last byte, or another one where there is none
abbrev pub last : ℕ → List ℕ → ℕ
last other [] = other
last other (b ∷ bs) = last b bs

pub last_append : (other : ℕ) (xs ys : List ℕ) → last other (xs ++ ys) ≡ last (last other xs) ys
last_append other [] ys = refl
last_append other (x ∷ xs) ys = last_append x xs ys

pub last_push : (other : ℕ) (xs : List ℕ) (b : ℕ) → last other (xs ++ b ∷ []) ≡ b
last_push other xs b = last_append other xs (b ∷ [])

-- what stands before the last byte
pub split_last : (b : ℕ) (bs : List ℕ) → (front : List ℕ) × (b ∷ bs ≡ front ++ last b bs ∷ [])
split_last b [] = ([], refl)
split_last b (c ∷ bs) = let r = split_last c bs in (b ∷ r.0, ap (λ xs. b ∷ xs) r.1)

pub no_end : (xs : List ℕ) (b : ℕ) (ys : List ℕ) → [] ≢ xs ++ b ∷ ys
no_end [] b ys e = cc
no_end (x ∷ xs) b ys e = cc
