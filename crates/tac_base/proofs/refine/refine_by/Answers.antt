use Rattle.std.proofs.Common.{subst}
use Rattle.tactic_theory.specs.States.{row_fault, refined}
use Rattle.proof_state.specs.States.{state_of}
use Rattle.tac_base.specs.Faults.{Gives}
use Rattle.tac_base.specs.Openings.{opening, Answers}
use Rattle.tac_base.specs.Sites.{env_of, goal_at}
use Rattle.tac_base.proofs.Answered.{wanted_of, opened_step, refused_step}
use Rattle.tac_base.proofs.refine.refine_by.Goals as goal

pub refine_with-requires-clause-opens : goal.refine_with-requires-clause-opens
refine_with-requires-clause-opens c =
    let E = env_of c.args.site.now in
    let g = goal_at c.args.site.now in
    let w = subst (λ r. Answers E g r (wanted_of E g c.requires.answers.0)) c.in-Ok.is c.requires.answers.1 in
    (w.0, w.2)

pub returns-in-Err-clause-state : goal.returns-in-Err-clause-state
returns-in-Err-clause-state c =
    let E = env_of c.args.site.now in
    let g = goal_at c.args.site.now in
    λ x w gs e. refused_step E g x gs (state_of c.args.state.now).frames c.in-Err.fault
    (subst (λ r. Answers E g r (wanted_of E g x)) c.in-Err.is w)

pub returns-in-Ok-clause-state : goal.returns-in-Ok-clause-state
returns-in-Ok-clause-state c =
    let E = env_of c.args.site.now in
    let g = goal_at c.args.site.now in
    λ x w gs e.
    let v = subst (λ r. Answers E g r (wanted_of E g x)) c.in-Ok.is w in
    subst (λ z. Gives state_of row_fault c.refine_with.result (refined gs (state_of c.args.state.now).frames z))
    (opened_step E g x v.0 (opening c.in-Ok.opening) v.1 v.2) (c.refine_with.ensures.state gs e)
