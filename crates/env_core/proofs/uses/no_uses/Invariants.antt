use Rattle.std.proofs.Common.{◌≡◌, ℕ, ◌-◌, ◌≤◌, length}
use Rattle.env_core.specs.Rows.{nodes_at, height_at}
use Rattle.env_core.proofs.uses.no_uses.Given as goal

abbrev pub decreases-loop-uses : goal.decreases-loop-uses
decreases-loop-uses l = l.params - length l.uses.items

abbrev pub invariant-loop-uses : goal.invariant-loop-uses
invariant-loop-uses l =
    (length l.uses.items ≤ l.params) × ((k : ℕ) → nodes_at l.uses.items k ≡ 0) × ((k : ℕ) → height_at l.uses.items k ≡ 0)
