use Rattle.std.proofs.Common.{◌∷◌, ◌<◌, ◌≤◌, [], ◌++◌, length, drop, None, sym, ap, subst, ◌∙◌, arith}
use Rattle.line_theory.specs.Lines.{items_ids, end_ids, ids}
use Rattle.line_theory.specs.Edits.{lost}
use Rattle.vcs_graph.specs.Table.{all_places}
use Rattle.vcs_graph.specs.GraphView.{line_of}
use Rattle.vcs_graph.specs.Parts.{part_front, end_front, part_rest, end_rest, rest_at}
use Rattle.vcs_graph.specs.Removals.{Stands, cleared}
use Rattle.vcs_graph.proofs.Seated.{kept_none}
use Rattle.vcs_graph.proofs.Keeps.{kept_length}
use Rattle.vcs_graph.proofs.Listed.{kept_total}
use Rattle.vcs_graph.proofs.Drops.{both, end_open}
use Rattle.vcs_graph.proofs.Cleared.{clearing, clearing_end, clearing_end_ids, kept_distinct, cut_lost, cut_room}
use Rattle.vcs_graph.proofs.SizesOf.{sizes_left}
use Rattle.vcs_graph.proofs.graph.Graph.cut_before.Goals as goal

pub returns-in_default-clause-line : goal.returns-in_default-clause-line
returns-in_default-clause-line c =
    let st = rw (← c.self.view_is) at c.requires.stands in
    absurd (subst Stands (kept_none c.self.invariant.kept c.args.id
    (sym (c.find.ensures (all_places c.self.inside.items.items c.self.inside.ending) c.self.invariant.kept.table) ∙ c.in_default.is)) st)

pub returns-in_default-clause-gone : goal.returns-in_default-clause-gone
returns-in_default-clause-gone c =
    let st = rw (← c.self.view_is) at c.requires.stands in
    absurd (subst Stands (kept_none c.self.invariant.kept c.args.id
    (sym (c.find.ensures (all_places c.self.inside.items.items c.self.inside.ending) c.self.invariant.kept.table) ∙ c.in_default.is)) st)

pub put_rest-requires : goal.put_rest-requires
put_rest-requires c =
    record {
      room = omega (
        arith,
        kept_total c.self.invariant.kept,
        kept_length c.self.invariant.kept c.args.self.now c.self.view_is,
        ap (λ x. length (items_ids x)) c.as_slice.ensures.value,
        c.requires.room,
      );
    }

pub cut_from-requires-else-place-len : goal.cut_from-requires-else-place-len
cut_from-requires-else-place-len c =
    let h = sym (c.find.ensures (all_places c.self.inside.items.items c.self.inside.ending) c.self.invariant.kept.table) ∙ c.in-Some.is in
    let st = rw (← c.self.view_is) at c.requires.stands in
    let above : length c.self.inside.items.items ≤ c.in-Some.place.item = omega (arith, c.len.ensures, c.self.inside.items.ok.0) in
    let e = clearing_end c.args.id c.in-Some.place h c.self.inside.zone c.self.invariant.kept st above in
    end_open c.args.id c.in-Some.place.part c.self.inside.ending e.0

pub returns-then-place-len-clause-line : goal.returns-then-place-len-clause-line
returns-then-place-len-clause-line c =
    let h = sym (c.find.ensures (all_places c.self.inside.items.items c.self.inside.ending) c.self.invariant.kept.table) ∙ c.in-Some.is in
    let st = rw (← c.self.view_is) at c.requires.stands in
    let below : c.in-Some.place.item < length c.self.inside.items.items = omega (arith, c.len.ensures, c.self.inside.items.ok.0) in
    let w = clearing c.args.id c.in-Some.place h c.self.inside.zone c.self.invariant.kept st below in
    let line = both _ _ _ _ (c.cut_from.ensures.items w.front w.rest w.item w.whole w.count)
    (c.cut_from.ensures.end w.front w.rest w.item w.whole w.count) ∙ (sym w.new ∙ ap (cleared c.args.id) c.self.view_is) in
    line

pub returns-then-place-len-clause-gone : goal.returns-then-place-len-clause-gone
returns-then-place-len-clause-gone c =
    let h = sym (c.find.ensures (all_places c.self.inside.items.items c.self.inside.ending) c.self.invariant.kept.table) ∙ c.in-Some.is in
    let st = rw (← c.self.view_is) at c.requires.stands in
    let below : c.in-Some.place.item < length c.self.inside.items.items = omega (arith, c.len.ensures, c.self.inside.items.ok.0) in
    let w = clearing c.args.id c.in-Some.place h c.self.inside.zone c.self.invariant.kept st below in
    let line = both _ _ _ _ (c.cut_from.ensures.items w.front w.rest w.item w.whole w.count)
    (c.cut_from.ensures.end w.front w.rest w.item w.whole w.count) ∙ (sym w.new ∙ ap (cleared c.args.id) c.self.view_is) in
    let rest = ap (λ y. rest_at c.in-Some.place.part (drop c.in-Some.place.item y) c.self.inside.ending)
    c.as_slice.ensures.value ∙ w.goes in
    c.put_rest.ensures.items ∙
    (ap (λ y. c.args.gone.now.items ++ y) (rest ∙
    sym (cut_lost (line_of c.self.inside.items.items c.self.inside.ending c.self.inside.zone)
    (cleared c.args.id (line_of c.self.inside.items.items c.self.inside.ending c.self.inside.zone)) (items_ids w.front
    ++ part_front c.in-Some.place.part w.item) (part_rest c.in-Some.place.part w.item
    ++ (items_ids w.rest ++ end_ids c.self.inside.ending)) [] w.was w.is (kept_distinct c.self.invariant.kept))) ∙
    (ap (λ y. c.args.gone.now.items ++ lost y (cleared c.args.id y)) c.self.view_is ∙
    ap (λ y. c.args.gone.now.items ++ lost c.args.self.now y) (sym line)))

pub returns-then-place-len-clause-room : goal.returns-then-place-len-clause-room
returns-then-place-len-clause-room c =
    let h = sym (c.find.ensures (all_places c.self.inside.items.items c.self.inside.ending) c.self.invariant.kept.table) ∙ c.in-Some.is in
    let st = rw (← c.self.view_is) at c.requires.stands in
    let below : c.in-Some.place.item < length c.self.inside.items.items = omega (arith, c.len.ensures, c.self.inside.items.ok.0) in
    let w = clearing c.args.id c.in-Some.place h c.self.inside.zone c.self.invariant.kept st below in
    let line = both _ _ _ _ (c.cut_from.ensures.items w.front w.rest w.item w.whole w.count)
    (c.cut_from.ensures.end w.front w.rest w.item w.whole w.count) ∙ (sym w.new ∙ ap (cleared c.args.id) c.self.view_is) in
    let rest = ap (λ y. rest_at c.in-Some.place.part (drop c.in-Some.place.item y) c.self.inside.ending)
    c.as_slice.ensures.value ∙ w.goes in
    omega (
      arith,
      c.put_rest.ensures.room,
      c.requires.room,
      cut_room (line_of c.self.inside.items.items c.self.inside.ending
          c.self.inside.zone) (cleared c.args.id (line_of c.self.inside.items.items c.self.inside.ending c.self.inside.zone))
          (items_ids w.front ++ part_front c.in-Some.place.part w.item) (part_rest c.in-Some.place.part w.item
          ++ (items_ids w.rest ++ end_ids c.self.inside.ending)) [] w.was w.is,
      ap length rest,
      ap (λ y. length (ids y)) line,
      ap (λ y. length (ids y)) c.self.view_is,
      ap (λ y. length (ids (cleared c.args.id y))) c.self.view_is,
    )

pub returns-else-place-len-clause-line : goal.returns-else-place-len-clause-line
returns-else-place-len-clause-line c =
    let h = sym (c.find.ensures (all_places c.self.inside.items.items c.self.inside.ending) c.self.invariant.kept.table) ∙ c.in-Some.is in
    let st = rw (← c.self.view_is) at c.requires.stands in
    let above : length c.self.inside.items.items ≤ c.in-Some.place.item = omega (arith, c.len.ensures, c.self.inside.items.ok.0) in
    let e = clearing_end c.args.id c.in-Some.place h c.self.inside.zone c.self.invariant.kept st above in
    let line = ap (λ y. line_of c.self.inside.items.items y None) c.cut_from-else-place-len.ensures.left ∙
    (sym e.1 ∙ ap (cleared c.args.id) c.self.view_is) in
    line

pub returns-else-place-len-clause-gone : goal.returns-else-place-len-clause-gone
returns-else-place-len-clause-gone c =
    let h = sym (c.find.ensures (all_places c.self.inside.items.items c.self.inside.ending) c.self.invariant.kept.table) ∙ c.in-Some.is in
    let st = rw (← c.self.view_is) at c.requires.stands in
    let above : length c.self.inside.items.items ≤ c.in-Some.place.item = omega (arith, c.len.ensures, c.self.inside.items.ok.0) in
    let e = clearing_end c.args.id c.in-Some.place h c.self.inside.zone c.self.invariant.kept st above in
    let i = clearing_end_ids c.args.id c.in-Some.place h c.self.inside.zone c.self.invariant.kept st above in
    let line = ap (λ y. line_of c.self.inside.items.items y None) c.cut_from-else-place-len.ensures.left ∙
    (sym e.1 ∙ ap (cleared c.args.id) c.self.view_is) in
    let rest = ap (λ y. rest_at c.in-Some.place.part (drop c.in-Some.place.item y) c.self.inside.ending) c.as_slice.ensures.value ∙ i.0 in
    c.put_rest.ensures.items ∙
    (ap (λ y. c.args.gone.now.items ++ y) (rest ∙
    sym (cut_lost (line_of c.self.inside.items.items c.self.inside.ending c.self.inside.zone)
    (cleared c.args.id (line_of c.self.inside.items.items c.self.inside.ending c.self.inside.zone))
    (items_ids c.self.inside.items.items ++ end_front c.in-Some.place.part c.self.inside.ending)
    (end_rest c.in-Some.place.part c.self.inside.ending) [] i.1.0 i.1.1 (kept_distinct c.self.invariant.kept))) ∙
    (ap (λ y. c.args.gone.now.items ++ lost y (cleared c.args.id y)) c.self.view_is ∙
    ap (λ y. c.args.gone.now.items ++ lost c.args.self.now y) (sym line)))

pub returns-else-place-len-clause-room : goal.returns-else-place-len-clause-room
returns-else-place-len-clause-room c =
    let h = sym (c.find.ensures (all_places c.self.inside.items.items c.self.inside.ending) c.self.invariant.kept.table) ∙ c.in-Some.is in
    let st = rw (← c.self.view_is) at c.requires.stands in
    let above : length c.self.inside.items.items ≤ c.in-Some.place.item = omega (arith, c.len.ensures, c.self.inside.items.ok.0) in
    let e = clearing_end c.args.id c.in-Some.place h c.self.inside.zone c.self.invariant.kept st above in
    let i = clearing_end_ids c.args.id c.in-Some.place h c.self.inside.zone c.self.invariant.kept st above in
    let line = ap (λ y. line_of c.self.inside.items.items y None) c.cut_from-else-place-len.ensures.left ∙
    (sym e.1 ∙ ap (cleared c.args.id) c.self.view_is) in
    let rest = ap (λ y. rest_at c.in-Some.place.part (drop c.in-Some.place.item y) c.self.inside.ending) c.as_slice.ensures.value ∙ i.0 in
    omega (
      arith,
      c.put_rest.ensures.room,
      c.requires.room,
      cut_room (line_of c.self.inside.items.items c.self.inside.ending
          c.self.inside.zone) (cleared c.args.id (line_of c.self.inside.items.items c.self.inside.ending c.self.inside.zone))
          (items_ids c.self.inside.items.items ++ end_front c.in-Some.place.part c.self.inside.ending)
          (end_rest c.in-Some.place.part c.self.inside.ending) [] i.1.0 i.1.1,
      ap length rest,
      ap (λ y. length (ids y)) line,
      ap (λ y. length (ids y)) c.self.view_is,
      ap (λ y. length (ids (cleared c.args.id y))) c.self.view_is,
    )

pub invariant_of-self : goal.invariant_of-self
invariant_of-self c =
    let h = sym (c.find.ensures (all_places c.self.inside.items.items c.self.inside.ending) c.self.invariant.kept.table) ∙ c.in-Some.is in
    let st = rw (← c.self.view_is) at c.requires.stands in
    let below : c.in-Some.place.item < length c.self.inside.items.items = omega (arith, c.len.ensures, c.self.inside.items.ok.0) in
    let w = clearing c.args.id c.in-Some.place h c.self.inside.zone c.self.invariant.kept st below in
    record {
      kept = record { table = c.cut_from.ensures.table c.self.invariant.kept.table; zone = tt };
      sizes = c.truncate.ensures ∙ sizes_left w.front (w.item ∷ w.rest) c.self.inside.items.items c.cut_from.new.items.items
          c.self.inside.sizes c.len-then-place-len.result w.whole (c.cut_from.ensures.items w.front w.rest w.item w.whole w.count)
          c.self.invariant.sizes (omega (arith, c.len-then-place-len.ensures, c.cut_from.new.items.ok.0));
    }
