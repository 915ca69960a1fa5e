use Rattle.std.proofs.Common.{[], ◌∷◌, refl, sym, ap, subst, ◌∙◌}
use Rattle.fol_theory.specs.Slots.{names}
use Rattle.fol_theory.specs.Syntax.{falsity}
use Rattle.logic_theory.specs.Rules.{leaf, step, false_e}
use Rattle.term_core.proofs.Variants.{meaning_False}
use Rattle.tactic_theory.specs.Refinements.{part}
use Rattle.tac_base.specs.Openings.{made, Opens}
use Rattle.tac_base.specs.Sites.{env_of, goal_at}
use Rattle.tac_core.proofs.Forms.{falsity_opens}
use Rattle.tac_core.proofs.form.exfalso.Goals as goal

pub returns : goal.returns
returns c =
    let E = env_of c.args.site.now in
    let g = goal_at c.args.site.now in
    let ps = part [] g.slots falsity ∷ [] in (
      ps,
      refl,
      subst (Opens E g ps)
          (sym (c.in_ok-made.ensures ∙ ap (λ a. made (step false_e ∷ leaf (names g.slots) ∷ []) (a ∷ [])) meaning_False)) (falsity_opens E g),
    )
