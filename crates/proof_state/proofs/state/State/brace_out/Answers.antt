use Rattle.tactic_theory.proofs.Proved.{brace_out_keeps}
use Rattle.proof_state.specs.Goals.{stands_for}
use Rattle.proof_state.proofs.state.State.brace_out.Goals as goal

pub with_goals-requires : goal.with_goals-requires
with_goals-requires c = brace_out_keeps (stands_for c.args.self.now.goals) (stands_for c.in_ok-goals.goals) c.in_ok-goals.ensures
