use Rattle.proof_tree.specs.Places.{goal_of}
use Rattle.proof_state.proofs.Fitting.{begun}
use Rattle.proof_state.proofs.Framed.{frames_Bottom}
use Rattle.proof_state.proofs.Items.{goals_Empty}
use Rattle.proof_state.proofs.state.State.begin.Goals as goal

pub returns-clause-fits : goal.returns-clause-fits
returns-clause-fits c = λ E. begun E (goal_of c.args.sequent) c.in_ok-tree.ensures c.in_ok-focused.ensures goals_Empty frames_Bottom
