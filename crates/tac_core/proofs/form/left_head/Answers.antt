use Rattle.std.proofs.Common.{refl, sym, ap, ◌∙◌}
use Rattle.term_core.specs.Formula.{meaning}
use Rattle.tactic_theory.specs.Refinements.{left_form}
use Rattle.tac_base.specs.Sites.{env_of, goal_at}
use Rattle.tac_base.specs.Tops.{formula_of}
use Rattle.tac_base.proofs.Answered.{row_opens, headed}
use Rattle.tac_core.proofs.Forms.{left_opens}
use Rattle.tac_core.proofs.form.left_head.Goals as goal

pub returns-in_ok-left_side-in-Either : goal.returns-in_ok-left_side-in-Either
returns-in_ok-left_side-in-Either c =
    let E = env_of c.args.site.now in
    let g = goal_at c.args.site.now in
    let h = sym c.requires.head ∙ sym c.top_of.ensures ∙ ap formula_of c.in-Either.is in
    row_opens E g (left_form g.slots) _ _ _ _ _ h refl c.in_ok-left_side-in-Either.ensures
    (left_opens E g (meaning c.in-Either.a.now) (meaning c.in-Either.b.now)
    (headed E c.requires.ready.environment g.slots g.shown c.requires.ready.formed _ h))
