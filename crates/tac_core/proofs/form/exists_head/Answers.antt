use Rattle.std.proofs.Common.{sym, ap, subst, ◌∙◌}
use Rattle.fol_theory.specs.Contexts.{variables}
use Rattle.fol_theory.specs.Slots.{entries}
use Rattle.env_theory.specs.Typing.{HasSort}
use Rattle.term_core.specs.Formula.{meaning}
use Rattle.term_core.specs.Term.{meaning as term_meaning}
use Rattle.tactic_theory.specs.Refinements.{witness_form}
use Rattle.tac_base.specs.Sites.{env_of, goal_at}
use Rattle.tac_base.specs.Tops.{formula_of}
use Rattle.tac_base.proofs.Answered.{row_opens, headed}
use Rattle.tac_core.proofs.Forms.{witness_opens, witness_sorted}
use Rattle.tac_core.proofs.form.exists_head.Goals as goal

pub witness-requires-clause-body : goal.witness-requires-clause-body
witness-requires-clause-body c =
    let E = env_of c.args.site.now in
    let g = goal_at c.args.site.now in
    (headed E c.requires.ready.environment g.slots g.shown c.requires.ready.formed _
    (sym c.requires.head ∙ sym c.top_of.ensures ∙ ap formula_of c.in-Ex.is)).0.1

pub returns-in_ok-witness-in-Ex : goal.returns-in_ok-witness-in-Ex
returns-in_ok-witness-in-Ex c =
    let E = env_of c.args.site.now in
    let g = goal_at c.args.site.now in
    let t = term_meaning c.args.t.now in
    let h = sym c.requires.head ∙ sym c.top_of.ensures ∙ ap formula_of c.in-Ex.is in
    let e = c.same.ensures.0 c.if-same.true in
    row_opens E g (witness_form g.slots c.args.found.now t c.args.span) _ _ _ _ _ h
    (witness_sorted g.slots c.in-Ex.sort.now c.args.found.now c.in-Ex.field-1.now t c.args.span (meaning c.in-Ex.body.now) e) c.in_ok-witness-in-Ex.ensures
    (witness_opens E g c.in-Ex.sort.now c.in-Ex.field-1.now (meaning c.in-Ex.body.now) t (headed E c.requires.ready.environment g.slots g.shown c.requires.ready.formed _ h)
    (subst (HasSort E (variables (entries g.slots)) t) (sym e) c.requires.term))
