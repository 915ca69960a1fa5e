use Rattle.std.proofs.Common.{◌≡◌, ◌≤◌, ◌++◌, [], length, take}
use Rattle.env_core.specs.Layers.{stacked}
use Rattle.env_core.proofs.entries.gathered.Given as goal

abbrev pub invariant-loop-kept : goal.invariant-loop-kept
invariant-loop-kept l = (l.newest ++ stacked [] (take l.kept l.layers) ≡ l.fn.newest ++ stacked [] l.layers) × (l.kept ≤ length l.layers)

abbrev pub decreases-loop-kept : goal.decreases-loop-kept
decreases-loop-kept l = l.kept
