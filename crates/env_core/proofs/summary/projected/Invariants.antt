use Rattle.std.proofs.Common.{◌≡◌, ℕ, ◌<◌}
use Rattle.env_core.specs.Rows.{nodes_at}
use Rattle.env_core.proofs.summary.projected.Given as goal

abbrev pub invariant-loop-i : goal.invariant-loop-i
invariant-loop-i l = (k : ℕ) → k < l.i → nodes_at l.uses k ≡ 0
