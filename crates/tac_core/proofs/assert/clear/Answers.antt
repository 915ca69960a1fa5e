use Rattle.std.proofs.Common.{[], ◌∷◌, sym, ap, subst, ◌∙◌}
use Rattle.fol_theory.specs.Slots.{slots_without}
use Rattle.tactic_theory.specs.Names.{hypothesis_named}
use Rattle.tactic_theory.specs.Refinements.{part, clear_row}
use Rattle.tactic_theory.proofs.Found.{named_below}
use Rattle.tac_base.specs.Openings.{Opens}
use Rattle.tac_base.specs.Sites.{env_of, goal_at}
use Rattle.tac_core.proofs.Asserts.{without_opens}
use Rattle.tac_core.proofs.assert.clear.Goals as goal

pub returns : goal.returns
returns c =
    let E = env_of c.args.site.now in
    let g = goal_at c.args.site.now in
    let n = c.args.given.now.text in
    let k = ap (hypothesis_named g.slots) (sym c.in_ok-name.ensures) ∙ sym c.hypothesis_named.ensures ∙ c.in-Some.is in
    let ps = part [] (slots_without g.slots c.in-Some.number) g.shown ∷ [] in (
      ps,
      ap (λ o. clear_row g.slots o g.shown) k,
      subst (Opens E g ps) (sym c.in_ok-made-in-Some.ensures)
          (without_opens E g c.in-Some.number (named_below g.slots n c.in-Some.number k)),
    )
