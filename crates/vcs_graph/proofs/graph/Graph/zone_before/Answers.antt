use Rattle.std.proofs.Common.{◌+◌, ◌∷◌, ◌++◌, length, length-take, take, drop, sym, ap, subst, ◌∙◌, arith}
use Rattle.line_theory.specs.Lines.{items_ids, end_ids, ids}
use Rattle.line_theory.specs.Edits.{lost}
use Rattle.vcs_graph.specs.Table.{all_places}
use Rattle.vcs_graph.specs.GraphView.{line_of}
use Rattle.vcs_graph.specs.Parts.{inside_of}
use Rattle.vcs_graph.specs.Removals.{NarrowsIn, narrowed}
use Rattle.vcs_graph.proofs.Seated.{kept_none}
use Rattle.vcs_graph.proofs.Zones.{
  opened_kept,
  opened_is,
  opening_room,
  opening_below,
  opening_block,
  opening_item,
  opening_was,
  opening_now,
}
use Rattle.vcs_graph.proofs.Cleared.{narrowing, narrowing_part, nothing_narrows, inside_room, kept_distinct, cut_lost, cut_room}
use Rattle.vcs_graph.proofs.Sized.{start_sum, opened_within, opened_small, opened_sizes}
use Rattle.vcs_graph.proofs.graph.Graph.zone_before.Goals as goal

pub returns-in_default-clause-line : goal.returns-in_default-clause-line
returns-in_default-clause-line c =
    let nr = rw (← c.self.view_is) at c.requires.narrows in
    absurd (nothing_narrows (line_of c.self.inside.items.items c.self.inside.ending c.self.inside.zone).focus
    (subst (λ y. NarrowsIn y (line_of c.self.inside.items.items c.self.inside.ending c.self.inside.zone).focus)
    (kept_none c.self.invariant.kept c.args.id (sym (c.find.ensures (all_places c.self.inside.items.items c.self.inside.ending)
    c.self.invariant.kept.table) ∙ c.in_default.is)) nr))

pub returns-in_default-clause-gone : goal.returns-in_default-clause-gone
returns-in_default-clause-gone c =
    let nr = rw (← c.self.view_is) at c.requires.narrows in
    absurd (nothing_narrows (line_of c.self.inside.items.items c.self.inside.ending c.self.inside.zone).focus
    (subst (λ y. NarrowsIn y (line_of c.self.inside.items.items c.self.inside.ending c.self.inside.zone).focus)
    (kept_none c.self.invariant.kept c.args.id (sym (c.find.ensures (all_places c.self.inside.items.items c.self.inside.ending)
    c.self.invariant.kept.table) ∙ c.in_default.is)) nr))

pub returns-in_default-part : goal.returns-in_default-part
returns-in_default-part c =
    let h = sym (c.find.ensures (all_places c.self.inside.items.items c.self.inside.ending) c.self.invariant.kept.table) ∙ c.in-Some.is in
    let nr = rw (← c.self.view_is) at c.requires.narrows in
    absurd (narrowing_part c.args.id c.in-Some.place h c.self.inside.zone c.self.invariant.kept nr c.in_default-part.not-Inside)

pub start_of-start-requires : goal.start_of-start-requires
start_of-start-requires c =
    let h = sym (c.find.ensures (all_places c.self.inside.items.items c.self.inside.ending) c.self.invariant.kept.table) ∙ c.in-Some.is in
    let nr = rw (← c.self.view_is) at c.requires.narrows in
    let w = narrowing c.args.id c.in-Some.place h c.self.inside.zone c.self.invariant.kept nr c.in-Inside.number
    c.saturating_sub-keep.result c.in-Inside.is c.saturating_sub-keep.ensures in
    omega (arith, opened_within w c.self.invariant.sizes)

pub index-requires : goal.index-requires
index-requires c =
    let h = sym (c.find.ensures (all_places c.self.inside.items.items c.self.inside.ending) c.self.invariant.kept.table) ∙ c.in-Some.is in
    let nr = rw (← c.self.view_is) at c.requires.narrows in
    let w = narrowing c.args.id c.in-Some.place h c.self.inside.zone c.self.invariant.kept nr c.in-Inside.number
    c.saturating_sub-keep.result c.in-Inside.is c.saturating_sub-keep.ensures in
    omega (arith, opening_below w, c.self.inside.items.ok.0)

pub put_inside-requires-clause-within : goal.put_inside-requires-clause-within
put_inside-requires-clause-within c =
    let h = sym (c.find.ensures (all_places c.self.inside.items.items c.self.inside.ending) c.self.invariant.kept.table) ∙ c.in-Some.is in
    let nr = rw (← c.self.view_is) at c.requires.narrows in
    let w = narrowing c.args.id c.in-Some.place h c.self.inside.zone c.self.invariant.kept nr c.in-Inside.number
    c.saturating_sub-keep.result c.in-Inside.is c.saturating_sub-keep.ensures in
    let x = opening_item w c.index.result.now c.index.ensures in
    omega (arith, w.fits, ap (λ y. length (inside_of y)) x)

pub put_inside-requires-clause-room : goal.put_inside-requires-clause-room
put_inside-requires-clause-room c =
    let h = sym (c.find.ensures (all_places c.self.inside.items.items c.self.inside.ending) c.self.invariant.kept.table) ∙ c.in-Some.is in
    let nr = rw (← c.self.view_is) at c.requires.narrows in
    let w = narrowing c.args.id c.in-Some.place h c.self.inside.zone c.self.invariant.kept nr c.in-Inside.number
    c.saturating_sub-keep.result c.in-Inside.is c.saturating_sub-keep.ensures in
    let x = opening_item w c.index.result.now c.index.ensures in
    omega (
      arith,
      inside_room c.self.invariant.kept w,
      ap (λ y. length (inside_of y)) x,
      c.requires.room,
      ap (λ y. length (ids y)) c.self.view_is,
    )

pub index_mut-requires : goal.index_mut-requires
index_mut-requires c =
    let h = sym (c.find.ensures (all_places c.self.inside.items.items c.self.inside.ending) c.self.invariant.kept.table) ∙ c.in-Some.is in
    let nr = rw (← c.self.view_is) at c.requires.narrows in
    let w = narrowing c.args.id c.in-Some.place h c.self.inside.zone c.self.invariant.kept nr c.in-Inside.number
    c.saturating_sub-keep.result c.in-Inside.is c.saturating_sub-keep.ensures in
    omega (arith, opening_below w, c.self.inside.items.ok.0)

pub shorten-requires : goal.shorten-requires
shorten-requires c =
    let h = sym (c.find.ensures (all_places c.self.inside.items.items c.self.inside.ending) c.self.invariant.kept.table) ∙ c.in-Some.is in
    let nr = rw (← c.self.view_is) at c.requires.narrows in
    let w = narrowing c.args.id c.in-Some.place h c.self.inside.zone c.self.invariant.kept nr c.in-Inside.number
    c.saturating_sub-keep.result c.in-Inside.is c.saturating_sub-keep.ensures in
    opening_block w c.index_mut.result.now c.index_mut.ensures.value

pub set-requires-clause-within : goal.set-requires-clause-within
set-requires-clause-within c =
    let h = sym (c.find.ensures (all_places c.self.inside.items.items c.self.inside.ending) c.self.invariant.kept.table) ∙ c.in-Some.is in
    let nr = rw (← c.self.view_is) at c.requires.narrows in
    let w = narrowing c.args.id c.in-Some.place h c.self.inside.zone c.self.invariant.kept nr c.in-Inside.number
    c.saturating_sub-keep.result c.in-Inside.is c.saturating_sub-keep.ensures in
    opened_within w c.self.invariant.sizes

pub set-requires-clause-small : goal.set-requires-clause-small
set-requires-clause-small c =
    let h = sym (c.find.ensures (all_places c.self.inside.items.items c.self.inside.ending) c.self.invariant.kept.table) ∙ c.in-Some.is in
    let nr = rw (← c.self.view_is) at c.requires.narrows in
    let w = narrowing c.args.id c.in-Some.place h c.self.inside.zone c.self.invariant.kept nr c.in-Inside.number
    c.saturating_sub-keep.result c.in-Inside.is c.saturating_sub-keep.ensures in
    omega (
      arith,
      opened_small w c.self.invariant.sizes c.index_mut.result.now c.index_mut.ensures.value (c.saturating_sub-keep.result + 2)
          (omega arith) c.self.invariant.kept,
      c.len-total.ensures.small,
      c.len-total.ensures.len,
    )

pub invariant_of-self : goal.invariant_of-self
invariant_of-self c =
    let h = sym (c.find.ensures (all_places c.self.inside.items.items c.self.inside.ending) c.self.invariant.kept.table) ∙ c.in-Some.is in
    let nr = rw (← c.self.view_is) at c.requires.narrows in
    let w = narrowing c.args.id c.in-Some.place h c.self.inside.zone c.self.invariant.kept nr c.in-Inside.number
    c.saturating_sub-keep.result c.in-Inside.is c.saturating_sub-keep.ensures in
    let s = w.start c.start_of-start.result (start_sum c.self.inside.zone c.self.inside.items.items c.self.inside.sizes
    c.in-Some.place.item c.start_of-start.result c.self.invariant.sizes c.start_of-start.ensures) in
    record {
      kept = opened_kept c.self.invariant.kept.table w c.index_mut.result.now c.shorten.new.self c.index_mut.ensures.value
          c.shorten.ensures.short c.shorten.ensures.table c.start_of-start.result s;
      sizes = c.set.ensures ∙ opened_sizes w c.self.invariant.sizes c.index_mut.result.now c.index_mut.ensures.value
          (c.saturating_sub-keep.result + 2) (omega arith) c.shorten.new.self c.shorten.ensures.short;
    }

pub returns-clause-line : goal.returns-clause-line
returns-clause-line c =
    let h = sym (c.find.ensures (all_places c.self.inside.items.items c.self.inside.ending) c.self.invariant.kept.table) ∙ c.in-Some.is in
    let nr = rw (← c.self.view_is) at c.requires.narrows in
    let w = narrowing c.args.id c.in-Some.place h c.self.inside.zone c.self.invariant.kept nr c.in-Inside.number
    c.saturating_sub-keep.result c.in-Inside.is c.saturating_sub-keep.ensures in
    let line = opened_is w c.index_mut.result.now c.shorten.new.self c.index_mut.ensures.value c.shorten.ensures.short
    c.start_of-start.result ∙ ap (narrowed c.args.id) c.self.view_is in
    line

pub returns-clause-gone : goal.returns-clause-gone
returns-clause-gone c =
    let h = sym (c.find.ensures (all_places c.self.inside.items.items c.self.inside.ending) c.self.invariant.kept.table) ∙ c.in-Some.is in
    let nr = rw (← c.self.view_is) at c.requires.narrows in
    let w = narrowing c.args.id c.in-Some.place h c.self.inside.zone c.self.invariant.kept nr c.in-Inside.number
    c.saturating_sub-keep.result c.in-Inside.is c.saturating_sub-keep.ensures in
    let line = opened_is w c.index_mut.result.now c.shorten.new.self c.index_mut.ensures.value c.shorten.ensures.short
    c.start_of-start.result ∙ ap (narrowed c.args.id) c.self.view_is in
    let x = opening_item w c.index.result.now c.index.ensures in
    c.put_inside.ensures.items ∙
    (ap (λ y. c.args.gone.now.items ++ y) (ap (λ y. drop c.saturating_sub-keep.result (inside_of y)) x ∙
    sym (cut_lost (line_of c.self.inside.items.items c.self.inside.ending c.self.inside.zone)
    (narrowed c.args.id (line_of c.self.inside.items.items c.self.inside.ending c.self.inside.zone)) (items_ids w.before
    ++ (w.lemma ∷ take c.saturating_sub-keep.result w.inside)) (drop c.saturating_sub-keep.result w.inside)
    (w.closer.id ∷ (items_ids w.rest ++ end_ids c.self.inside.ending)) (opening_was c.self.invariant.kept w) (opening_now w)
    (kept_distinct c.self.invariant.kept))) ∙ (ap (λ y. c.args.gone.now.items ++ lost y (narrowed c.args.id y)) c.self.view_is ∙
    ap (λ y. c.args.gone.now.items ++ lost c.args.self.now y) (sym line)))

pub returns-clause-room : goal.returns-clause-room
returns-clause-room c =
    let h = sym (c.find.ensures (all_places c.self.inside.items.items c.self.inside.ending) c.self.invariant.kept.table) ∙ c.in-Some.is in
    let nr = rw (← c.self.view_is) at c.requires.narrows in
    let w = narrowing c.args.id c.in-Some.place h c.self.inside.zone c.self.invariant.kept nr c.in-Inside.number
    c.saturating_sub-keep.result c.in-Inside.is c.saturating_sub-keep.ensures in
    let line = opened_is w c.index_mut.result.now c.shorten.new.self c.index_mut.ensures.value c.shorten.ensures.short
    c.start_of-start.result ∙ ap (narrowed c.args.id) c.self.view_is in
    let x = opening_item w c.index.result.now c.index.ensures in
    omega (
      arith,
      c.put_inside.ensures.room,
      c.requires.room,
      cut_room (line_of c.self.inside.items.items c.self.inside.ending
          c.self.inside.zone) (narrowed c.args.id (line_of c.self.inside.items.items c.self.inside.ending c.self.inside.zone))
          (items_ids w.before ++ (w.lemma ∷ take c.saturating_sub-keep.result w.inside)) (drop c.saturating_sub-keep.result
          w.inside) (w.closer.id ∷ (items_ids w.rest ++ end_ids c.self.inside.ending)) (opening_was c.self.invariant.kept w)
          (opening_now w),
      ap (λ y. length (drop c.saturating_sub-keep.result (inside_of y))) x,
      ap (λ y. length (ids y)) line,
      ap (λ y. length (ids y)) c.self.view_is,
      ap (λ y. length (ids (narrowed c.args.id y))) c.self.view_is,
    )

pub overflow_add-keep : goal.overflow_add-keep
overflow_add-keep c =
    let h = sym (c.find.ensures (all_places c.self.inside.items.items c.self.inside.ending) c.self.invariant.kept.table) ∙ c.in-Some.is in
    let nr = rw (← c.self.view_is) at c.requires.narrows in
    let w = narrowing c.args.id c.in-Some.place h c.self.inside.zone c.self.invariant.kept nr c.in-Inside.number
    c.saturating_sub-keep.result c.in-Inside.is c.saturating_sub-keep.ensures in
    let r = opening_room c.self.invariant.kept w in
    omega (arith, r, c.len-total.ensures.small, c.len-total.ensures.len)
