use Rattle.vcs_graph.proofs.Sums.{Front}
use Rattle.vcs_graph.proofs.sizes.Sizes.sum_to.Given as goal

abbrev pub invariant-loop-rest : goal.invariant-loop-rest
invariant-loop-rest l = Front l.self-inside.sizes.items l.count l.left l.rest l.run l.total

abbrev pub decreases-loop-rest : goal.decreases-loop-rest
decreases-loop-rest l = l.rest
