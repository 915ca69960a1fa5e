use Rattle.env_core.specs.Meaning.{declaration}
use Rattle.vern_parse.specs.Meaning.{name}
use Rattle.tactic_theory.specs.Typing.{definition_at, meaning}
use Rattle.tac_base.specs.Openings.{opening}
use Rattle.tac_base.specs.Sites.{env_of, goal_at}
use Rattle.tac_eq.proofs.Unfolds.{goal_unfolded}
use Rattle.tac_eq.proofs.unfold.unfold_goal.Goals as goal

pub returns : goal.returns
returns c =
    let E = env_of c.args.site.now in
    let g = goal_at c.args.site.now in
    let x = name c.args.definition.now in
    goal_unfolded E c.requires.environment (declaration c.in_ok-definition_of.field-0.now) c.in_ok-definition_of.ensures.put g c.requires.formed
    (definition_at (meaning E g.slots x.text) x) c.in_ok-definition_of.ensures.gives (opening c.in_ok-made.made) c.in_ok-made.ensures
