use Rattle.std.proofs.Common.{length}
use Rattle.proof_state.specs.Sequents.{goals_in}
use Rattle.proof_state.proofs.tests.count.Given as goal

abbrev pub decreases-loop-rest : goal.decreases-loop-rest
decreases-loop-rest l = length (goals_in l.at)
