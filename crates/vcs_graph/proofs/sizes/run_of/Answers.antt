use Rattle.std.proofs.Common.{◌/◌, arith}
use Rattle.vcs_graph.proofs.Sums.{doubling_more, doubling_run, doubling_ends}
use Rattle.vcs_graph.proofs.sizes.run_of.Goals as goal

pub overflow_mul-run : goal.overflow_mul-run
overflow_mul-run c = let r = doubling_run c.loop-rest.invariant in omega (arith, r.0, r.1, c.requires.small)

pub loop-rest-preserved : goal.loop-rest-preserved
loop-rest-preserved c = doubling_more c.loop-rest.invariant (c.loop-rest.rest / 2) _ (omega arith) (omega arith)

pub returns : goal.returns
returns c = doubling_ends c.loop-rest.invariant (c.loop-rest.rest / 2) (omega arith)
