use Rattle.std.proofs.Common.{ap}
use Rattle.proof_tree.specs.Meaning.{meanings}
use Rattle.proof_state.proofs.Fitting.{kept}
use Rattle.proof_state.proofs.state.State.with_goals.Goals as goal

pub returns-clause-fits : goal.returns-clause-fits
returns-clause-fits c = λ E g w. kept E g (ap meanings c.in_ok-tree.ensures) c.requires w
