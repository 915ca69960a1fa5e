use Rattle.std.proofs.Common.{◌<◌}
use Rattle.vcs_graph.proofs.Sums.{Doubling}
use Rattle.vcs_graph.proofs.sizes.run_of.Given as goal

abbrev pub invariant-loop-rest : goal.invariant-loop-rest
invariant-loop-rest l = Doubling l.number l.rest l.run

abbrev pub decreases-loop-rest : goal.decreases-loop-rest
decreases-loop-rest l = l.rest
