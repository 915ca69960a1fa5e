use Rattle.std.proofs.Common.{refl, sym, ap, ◌∙◌}
use Rattle.term_core.specs.Formula.{meaning}
use Rattle.tactic_theory.specs.Refinements.{split_form}
use Rattle.tac_base.specs.Sites.{env_of, goal_at}
use Rattle.tac_base.specs.Tops.{formula_of}
use Rattle.tac_base.proofs.Answered.{row_opens, headed}
use Rattle.tac_core.proofs.Forms.{both_opens, truth_opens}
use Rattle.tac_core.proofs.form.split_head.Goals as goal

pub returns-in_ok-both_sides-in-Both : goal.returns-in_ok-both_sides-in-Both
returns-in_ok-both_sides-in-Both c =
    let E = env_of c.args.site.now in
    let g = goal_at c.args.site.now in
    let h = sym c.requires.head ∙ sym c.top_of.ensures ∙ ap formula_of c.in-Both.is in
    row_opens E g (split_form g.slots) _ _ _ _ _ h refl c.in_ok-both_sides-in-Both.ensures
    (both_opens E g (meaning c.in-Both.a.now) (meaning c.in-Both.b.now)
    (headed E c.requires.ready.environment g.slots g.shown c.requires.ready.formed _ h))

pub returns-in_ok-closed-in-Truth : goal.returns-in_ok-closed-in-Truth
returns-in_ok-closed-in-Truth c =
    let E = env_of c.args.site.now in
    let g = goal_at c.args.site.now in
    let h = sym c.requires.head ∙ sym c.top_of.ensures ∙ ap formula_of c.in-Truth.is in
    row_opens E g (split_form g.slots) _ _ _ _ _ h refl c.in_ok-closed-in-Truth.ensures
    (truth_opens E g (headed E c.requires.ready.environment g.slots g.shown c.requires.ready.formed _ h))
