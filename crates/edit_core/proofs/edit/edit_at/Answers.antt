use Rattle.std.proofs.Common.{◌≡◌, refl, sym, ap, ◌∙◌}
use Rattle.std.specs.Prelude.{is_some}
use Rattle.line_theory.specs.Edits.{changed, edited}
use Rattle.edit_core.specs.Told.{told, line_after}
use Rattle.edit_core.specs.Choices.{opens_zone}
use Rattle.edit_core.proofs.Chosen.{zones, cuts, edited_other, not_same}
use Rattle.edit_core.proofs.edit.edit_at.Goals as goal
use Rattle.edit_core.proofs.edit.edit_at.Goals.{then-opens_zone, else-opens_zone}

pub open_zone-requires : goal.open_zone-requires
open_zone-requires c =
    let k = sym (c.opens_zone.ensures ∙
    (λ i. opens_zone (c.site-site.ensures i) ((c.is_some.ensures ∙ ap is_some c.zone.ensures) i))) ∙ c.if-opens_zone.true in
    let z = zones c.args.id c.args.graph.now k in
    record { live = z.0; opens = z.1.0 }

pub drop_after-requires-else-opens_zone : goal.drop_after-requires-else-opens_zone
drop_after-requires-else-opens_zone c =
    let k = sym (c.opens_zone.ensures ∙
    (λ i. opens_zone (c.site-site.ensures i) ((c.is_some.ensures ∙ ap is_some c.zone.ensures) i))) ∙ c.if-opens_zone.false in
    (cuts c.args.id c.args.graph.now (λ e. c.in_default.not-Nowhere (c.site-site.ensures ∙ e)) (λ n e. c.in_default.not-Behind n
    (c.site-site.ensures ∙ e)) k).0

pub returns : goal.returns
returns c =
    let n = not_same c.args.id c.if-id-eq1.false in
    let made : edited c.args.id c.args.graph.now ≡ changed c.if-opens_zone.graph =
    elim c.if-opens_zone.branch as (λ _. edited c.args.id c.args.graph.now ≡ changed c.if-opens_zone.graph) [
      | then-opens_zone w ↦
          let k = sym (c.opens_zone.ensures ∙
          (λ i. opens_zone (c.site-site.ensures i) ((c.is_some.ensures ∙ ap is_some c.zone.ensures) i))) ∙ w.if-opens_zone.true in
          edited_other c.args.id c.args.graph.now n ∙ ((zones c.args.id c.args.graph.now k).1.1 ∙
          ap changed (sym (w.graph-is ∙ w.open_zone.ensures.zone)))
      | else-opens_zone w ↦
          let k = sym (c.opens_zone.ensures ∙
          (λ i. opens_zone (c.site-site.ensures i) ((c.is_some.ensures ∙ ap is_some c.zone.ensures) i))) ∙ w.if-opens_zone.false in
          edited_other c.args.id c.args.graph.now n
          ∙ ((cuts c.args.id c.args.graph.now (λ e. c.in_default.not-Nowhere (c.site-site.ensures ∙ e))
          (λ m e. c.in_default.not-Behind m (c.site-site.ensures ∙ e)) k).1 ∙
          ap changed (sym (w.graph-is ∙ w.drop_after-else-opens_zone.ensures)))
    ] in
    record { line = sym (ap (λ e. line_after e c.args.graph.now) made); told = c.tell-2.ensures ∙ sym (ap told made); ok = refl }
