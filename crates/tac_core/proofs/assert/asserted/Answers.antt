use Rattle.std.proofs.Common.{sym, subst, ◌∙◌}
use Rattle.term_core.specs.Formula.{meaning}
use Rattle.tac_base.specs.Openings.{Opens}
use Rattle.tac_base.specs.Sites.{env_of, goal_at}
use Rattle.tac_core.proofs.Asserts.{lemma_opens, name_free_row}
use Rattle.tac_core.proofs.assert.asserted.Goals as goal

pub returns : goal.returns
returns c =
    let E = env_of c.args.site.now in
    let g = goal_at c.args.site.now in (
      _,
      name_free_row E g.slots g.shown c.args.name.now (meaning c.args.a.now) (sym c.is_taken.ensures ∙ c.if-is_taken.false),
      subst (Opens E g _) (sym c.in_ok-made.ensures) (lemma_opens E g c.args.name.now (meaning c.args.a.now) c.requires.formed),
    )
