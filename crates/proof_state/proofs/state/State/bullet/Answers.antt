use Rattle.tactic_theory.proofs.Proved.{bullet_keeps}
use Rattle.proof_state.specs.Marks.{bytes}
use Rattle.proof_state.specs.Goals.{stands_for}
use Rattle.proof_state.proofs.state.State.bullet.Goals as goal

pub with_goals-requires : goal.with_goals-requires
with_goals-requires c =
    bullet_keeps (bytes c.args.bullet) (stands_for c.args.self.now.goals) (stands_for c.in_ok-goals.goals) c.in_ok-goals.ensures
