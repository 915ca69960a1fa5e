use Rattle.std.proofs.Common.{map, sym, ap, subst, ◌∙◌}
use Rattle.logic_theory.specs.Rules.{Every}
use Rattle.tactic_theory.specs.Refinements.{first_large}
use Rattle.script_theory.specs.Sizes.{large}
use Rattle.term_core.specs.Formula.{meaning}
use Rattle.proof_state.specs.States.{state_of}
use Rattle.tac_base.specs.Openings.{opening, IsFormula}
use Rattle.tac_base.specs.Sites.{env_of, goal_at}
use Rattle.tac_base.proofs.Opened.{put_in_formed, refused, replaced_is}
use Rattle.tac_base.proofs.refine.refine_with.Goals as goal

pub first_large-requires : goal.first_large-requires
first_large-requires c =
    let E = env_of c.args.site.now in
    subst (λ ls. Every (IsFormula E) (map meaning ls)) (sym c.deref.ensures.value)
    (put_in_formed E (goal_at c.args.site.now) c.requires.opens.0 (opening c.args.opening) c.requires.ready.formed c.requires.opens.1)

pub replaced-requires-clause-follows : goal.replaced-requires-clause-follows
replaced-requires-clause-follows c = c.requires.opens.1.follows

pub returns-in-Some-clause-state : goal.returns-in-Some-clause-state
returns-in-Some-clause-state c =
    let E = env_of c.args.site.now in
    let found = sym c.in-Some.is ∙ c.first_large.ensures ∙ ap (λ ls. first_large (large E) (map meaning ls)) c.deref.ensures.value in
    λ gs e. refused gs (state_of c.args.state.now).frames (first_large (large E) (opening c.args.opening).formulas) c.in-Some.nodes
    c.in-Some.height _ found

pub returns-in_ok-next-in-None-clause-state : goal.returns-in_ok-next-in-None-clause-state
returns-in_ok-next-in-None-clause-state c =
    let E = env_of c.args.site.now in
    let s = state_of c.args.state.now in
    let found = sym c.in-None.is ∙ c.first_large.ensures ∙ ap (λ ls. first_large (large E) (map meaning ls)) c.deref.ensures.value in
    λ gs e. replaced_is E (goal_at c.args.site.now) (opening c.args.opening) s.focused gs s.frames (state_of c.in_ok-next-in-None.next) e
    found c.in_ok-next-in-None.ensures.state
