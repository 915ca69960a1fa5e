use Rattle.std.proofs.Common.{◌≡◌, ◌≤◌, ◌++◌, length, sym, ap, ◌∙◌, arith}
use Rattle.std.specs.Prelude.{is_some}
use Rattle.line_theory.specs.Lines.{ids}
use Rattle.line_theory.specs.Edits.{changed, removed, lost}
use Rattle.edit_core.specs.declared.removal.Removal.TheVariants as removal
use Rattle.edit_core.specs.Told.{line_after}
use Rattle.edit_core.specs.Choices.{narrows}
use Rattle.edit_core.specs.Cancels.{as_removal}
use Rattle.edit_core.proofs.Chosen.{narrowing, clearing}
use Rattle.edit_core.proofs.Runs.{nothing_lost}
use Rattle.edit_core.proofs.removal.remove.Goals as goal
use Rattle.edit_core.proofs.removal.remove.Goals.{then-narrows, else-narrows}

pub returns-in-Nowhere-clause-gone : goal.returns-in-Nowhere-clause-gone
returns-in-Nowhere-clause-gone c = nothing_lost c.args.gone.now.items c.args.graph.now

pub returns-in-Behind-clause-gone : goal.returns-in-Behind-clause-gone
returns-in-Behind-clause-gone c = nothing_lost c.args.gone.now.items c.args.graph.now

pub returns : goal.returns
returns c =
    let made : removed c.args.id c.args.graph.now ≡ changed c.if-narrows.graph =
    elim c.if-narrows.branch as (λ _. removed c.args.id c.args.graph.now ≡ changed c.if-narrows.graph) [
      | then-narrows w ↦
          let k = sym (c.narrows.ensures ∙
          (λ i. narrows (c.site-site.ensures i) ((c.is_some.ensures ∙ ap is_some c.zone.ensures) i))) ∙ w.if-narrows.true in
          (narrowing c.args.id c.args.graph.now k).1 ∙ ap changed (sym (w.graph-is ∙ w.zone_before.ensures.line))
      | else-narrows w ↦
          let k = sym (c.narrows.ensures ∙
          (λ i. narrows (c.site-site.ensures i) ((c.is_some.ensures ∙ ap is_some c.zone.ensures) i))) ∙ w.if-narrows.false in
          (clearing c.args.id c.args.graph.now (λ e. c.in_default.not-Nowhere (c.site-site.ensures ∙ e))
          (λ n e. c.in_default.not-Behind n (c.site-site.ensures ∙ e)) k).1 ∙ ap changed (sym (w.graph-is ∙ w.cut_before.ensures.line))
    ] in
    record {
      line = sym (ap (λ e. line_after e c.args.graph.now) made);
      told = ap removal.Removed c.tell.ensures ∙ sym (ap as_removal made);
      gone = elim c.if-narrows.branch as (λ _. c.if-narrows.gone.items ≡ c.args.gone.now.items ++ lost c.args.graph.now
          c.if-narrows.graph) [
            | then-narrows w ↦ ap (λ g. g.items) w.gone-is ∙
                (w.zone_before.ensures.gone ∙ ap (λ e. c.args.gone.now.items ++ lost c.args.graph.now e) (sym w.graph-is))
            | else-narrows w ↦ ap (λ g. g.items) w.gone-is ∙
                (w.cut_before.ensures.gone ∙ ap (λ e. c.args.gone.now.items ++ lost c.args.graph.now e) (sym w.graph-is))
          ];
      room = elim c.if-narrows.branch as (λ _. length (ids c.if-narrows.graph) ≤ c.if-narrows.gone.spare) [
        | then-narrows w ↦ omega (arith, w.zone_before.ensures.room, ap (λ y. length (ids y)) w.graph-is, ap (λ g. g.spare) w.gone-is)
        | else-narrows w ↦ omega (arith, w.cut_before.ensures.room, ap (λ y. length (ids y)) w.graph-is, ap (λ g. g.spare) w.gone-is)
      ];
    }
