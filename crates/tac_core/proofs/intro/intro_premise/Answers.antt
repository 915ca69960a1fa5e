use Rattle.std.proofs.Common.{option_map, sym, ap, ◌∙◌}
use Rattle.vern_parse.specs.Meaning.{name}
use Rattle.term_core.specs.Formula.{meaning}
use Rattle.tactic_theory.specs.Refinements.{named}
use Rattle.tactic_theory.specs.Typing.{text_in}
use Rattle.tac_base.specs.Sites.{env_of, goal_at}
use Rattle.tac_base.proofs.Answered.{row_opens, headed}
use Rattle.tac_core.proofs.Introductions.{intro_form, hypothesis_opens, hypothesis_part}
use Rattle.tac_core.proofs.intro.intro_premise.Goals as goal

pub returns : goal.returns
returns c =
    let E = env_of c.args.site.now in
    let g = goal_at c.args.site.now in
    let n = text_in (option_map (λ x. name x.now) c.args.given) in
    let a = meaning c.args.premise.now in
    let b = meaning c.args.conclusion.now in
    let h = sym c.requires.head in
    row_opens E g (intro_form E g.slots n) _ _ _ _ _ h
    (hypothesis_part E g.slots n c.in_ok-name.name a b
    (ap (named E g.slots n) (sym c.in_ok-plain.ensures) ∙ c.in_ok-name.ensures)) c.in_ok-with_hypothesis.ensures
    (hypothesis_opens E g c.in_ok-name.name a b (headed E c.requires.ready.environment g.slots g.shown c.requires.ready.formed _ h))
