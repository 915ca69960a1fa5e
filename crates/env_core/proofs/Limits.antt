-- Lists of zeros, and what is added to them.
use Rattle.std.proofs.Common.{◌≡◌, ℕ, zero, suc, ◌+◌, ◌*◌, ◌<◌, ◌≤◌, ◌^◌, min, max, List, [], ◌∷◌, ◌++◌, refl, ap, ◌∙◌, take, drop}
use Rattle.std.proofs.Common.{length, arith}
use Rattle.std.proofs.lemmas.Grind.{common_steps}
use Rattle.env_theory.specs.Count.{joined}
use Rattle.env_core.specs.declared.tally.Tally.{Tally}
use Rattle.env_core.specs.Rows.{nodes_at, height_at}
use Rattle.env_core.proofs.Applications.{joined_own}

-- a zero behind zeros
pub nodes_zero : (us : List Tally) (z : Tally) → z.nodes ≡ 0 → ((k : ℕ) → nodes_at us k ≡ 0) → (k : ℕ) → nodes_at (us ++ z ∷ []) k ≡ 0
nodes_zero [] z e h zero = e
nodes_zero [] z e h (suc k) = refl
nodes_zero (u ∷ us) z e h zero = h zero
nodes_zero (u ∷ us) z e h (suc k) = nodes_zero us z e (λ j. h (suc j)) k

pub height_zero : (us : List Tally) (z : Tally) → z.height ≡ 0 → ((k : ℕ) → height_at us k ≡ 0) → (k : ℕ) → height_at (us ++ z ∷ []) k ≡ 0
height_zero [] z e h zero = e
height_zero [] z e h (suc k) = refl
height_zero (u ∷ us) z e h zero = h zero
height_zero (u ∷ us) z e h (suc k) = height_zero us z e (λ j. h (suc j)) k

pub ruleset zeros = (nodes_zero, height_zero)

-- once added to nothing
pub nodes_once : (old x y : ℕ) → old ≡ 0 → x ≡ y → min (old + 1 * x) (2 ^ 32) ≡ min y (2 ^ 32)
nodes_once old x y e f = omega (arith, e, f)

pub height_once : (old x y : ℕ) → old ≡ 0 → x ≡ y → min (max old (joined 1 x)) (2 ^ 32) ≡ min y (2 ^ 32)
height_once old x y e f = ap (λ z. min (max old z) (2 ^ 32)) (joined_own x ∙ f) ∙ omega (arith, e)

-- a list that is written back over all of a vector
pub written : (new items : List Tally) (len : ℕ) → length new ≡ length items → len ≡ length items
    → take len (new ++ drop (length new) items) ≡ new
written new items len e f = grind (arith, common_steps)
