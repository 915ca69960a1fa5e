use Rattle.std.proofs.Common.{◌≡◌, ◌+◌, ◌-◌, length, slice_set}
use Rattle.vcs_graph.proofs.Sums.{Setting}
use Rattle.vcs_graph.proofs.sizes.Sizes.set.Given as goal

abbrev pub invariant-loop-right : goal.invariant-loop-right
invariant-loop-right l = record {
  sizes : l.self-inside.sizes.items ≡ slice_set l.fn.self l.place l.size;
  sums : Setting l.self-inside.sums.items l.fn.self l.place l.size l.right l.rest l.run;
}

abbrev pub decreases-loop-right : goal.decreases-loop-right
decreases-loop-right l = l.rest + (length l.fn.self + 1 - l.right)
