use Rattle.std.proofs.Common.{subst}
use Rattle.env_core.specs.Meaning.{declarations}
use Rattle.proof_tree.specs.Places.{goal_of}
use Rattle.vern_parse.specs.Sentences.{refinement}
use Rattle.tactic_theory.specs.States.{row_fault}
use Rattle.proof_state.specs.States.{state_of}
use Rattle.tac_base.specs.Faults.{Gives}
use Rattle.tac_base.specs.Sites.{env_of, goal_at}
use Rattle.tac_eq.proofs.Own.{first_focused, first_goal}
use Rattle.tac_eq.proofs.dispatch.run.Goals as goal

pub refine_by-requires-clause-first : goal.refine_by-requires-clause-first
refine_by-requires-clause-first c = first_goal (state_of c.args.state.now).focused (goal_of c.in-Some.goal.now)
    (goal_at c.in_ok-site-in-Some.site) c.in-Some.ensures c.in_ok-site-in-Some.ensures.goal

pub returns-in_ok-site-in-Some-clause-state : goal.returns-in_ok-site-in-Some-clause-state
returns-in_ok-site-in-Some-clause-state c =
    let E = declarations c.args.env.now in
    let F = env_of c.in_ok-site-in-Some.site in
    let g = goal_at c.in_ok-site-in-Some.site in
    let x = refinement c.args.tac.now in
    let s = state_of c.args.state.now in
    let w = first_goal s.focused (goal_of c.in-Some.goal.now) g c.in-Some.ensures c.in_ok-site-in-Some.ensures.goal in
    subst (Gives state_of row_fault c.refine_by.result) (first_focused E x c.requires.own s F g w.0 c.in_ok-site-in-Some.ensures.env w.1)
    (c.refine_by.ensures.state x c.row-made.ensures w.0 w.1)
