-- Limits of numbers that stop.
use Rattle.std.proofs.Common.{◌≡◌, ℕ, zero, suc, ◌<◌, ◌≤◌, ◌^◌, ◌⊎◌, min, inl, inr, arith}
use Rattle.conv_core.specs.Outcomes.{IsWithin, Passes}

pub nodes_pass : (a n h : ℕ) → a ≡ min n (2 ^ 32) → 65536 < a → Passes n h
nodes_pass a n h e l = inl (omega (arith, e, l))

pub height_passes : (a n h : ℕ) → a ≡ min h (2 ^ 32) → 1024 < a → Passes n h
height_passes a n h e l = inr (omega (arith, e, l))

either_way : (m n : ℕ) → (n ≤ m) ⊎ (m < n)
either_way m zero = inl (omega arith)
either_way zero (suc n) = inr (omega arith)
either_way (suc m) (suc n) = go (either_way m n)
  where
    go : (n ≤ m) ⊎ (m < n) → (suc n ≤ suc m) ⊎ (suc m < suc n)
    go (inl h) = inl (omega (arith, h))
    go (inr h) = inr (omega (arith, h))

at_most : (m n : ℕ) → (m < n → ⊥) → n ≤ m
at_most m n h = go (either_way m n)
  where
    go : (n ≤ m) ⊎ (m < n) → n ≤ m
    go (inl l) = l
    go (inr l) = absurd (h l)

pub within : (a b n h : ℕ) → a ≡ min n (2 ^ 32) → b ≡ min h (2 ^ 32) → ((65536 < a) ⊎ (1024 < b) → ⊥) → IsWithin n h
within a b n h e f k = (
  omega (arith, e, at_most 65536 a (λ l. k (inl l))),
  omega (arith, f, at_most 1024 b (λ l. k (inr l))),
)

pub ruleset limits = (nodes_pass, height_passes)
