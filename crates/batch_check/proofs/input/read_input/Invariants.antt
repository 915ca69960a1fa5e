use Rattle.std.proofs.Common.{◌≡◌, ◌≤◌, ◌-◌}
use Rattle.batch_check.specs.Numbers.{INPUT_LIMIT}
use Rattle.batch_check.proofs.Reading.{IsSoFar}
use Rattle.batch_check.proofs.input.read_input.Given as goal

abbrev pub decreases-pieces : goal.decreases-pieces
decreases-pieces g l = INPUT_LIMIT - l.taken

abbrev pub invariant-pieces : goal.invariant-pieces
invariant-pieces g l = let S = g.S.Source in record {
  so_far : IsSoFar (S.left l.fn.source) (S.left l.source) l.text.items l.taken;
  within : l.taken ≤ INPUT_LIMIT;
  same : S.faults l.source ≡ S.faults l.fn.source;
}
