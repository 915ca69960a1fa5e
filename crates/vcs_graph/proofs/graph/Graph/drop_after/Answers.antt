use Rattle.std.proofs.Common.{None, ◌<◌, ◌≤◌, length, take, sym, ap, ◌∙◌, arith}
use Rattle.line_theory.specs.Lines.{dropped}
use Rattle.vcs_graph.specs.Table.{all_places}
use Rattle.vcs_graph.specs.Parts.{body_of, with_body}
use Rattle.vcs_graph.specs.GraphView.{line_of}
use Rattle.vcs_graph.proofs.Befores.{absent_no}
use Rattle.vcs_graph.proofs.Drops.{item_cut, end_cut, end_open, not_one, not_same, both}
use Rattle.vcs_graph.proofs.SizesOf.{sizes_after}
use Rattle.vcs_graph.proofs.graph.Graph.drop_after.Goals as goal

pub returns-in_default : goal.returns-in_default
returns-in_default c =
    let h = rw (← c.self.view_is) at c.requires in
    let n = not_same c.args.id c.if-id-eq1.false in
    absurd (absent_no c.self.invariant.kept c.args.id c.find-found.result
    (c.find-found.ensures (all_places c.self.inside.items.items c.self.inside.ending) c.self.invariant.kept.table) c.in_default.is (h n).0)

pub shorten-requires : goal.shorten-requires
shorten-requires c =
    let h = rw (← c.self.view_is) at c.requires in
    let n = not_same c.args.id c.if-id-eq1.false in
    let above : length c.self.inside.items.items ≤ c.in-Some.place.item = omega (arith, c.len.ensures, c.self.inside.items.ok.0) in
    let w = end_cut c.args.id c.in-Some.place c.find-found.result
    (c.find-found.ensures (all_places c.self.inside.items.items c.self.inside.ending) c.self.invariant.kept.table) c.in-Some.is
    c.self.inside.zone c.self.invariant.kept (h n).1 above in
    end_open c.args.id c.in-Some.place.part c.self.inside.ending w.1.0

pub returns-then-place-len : goal.returns-then-place-len
returns-then-place-len c =
    let h = rw (← c.self.view_is) at c.requires in
    let n = not_same c.args.id c.if-id-eq1.false in
    let below : c.in-Some.place.item < length c.self.inside.items.items = omega (arith, c.len.ensures, c.self.inside.items.ok.0) in
    let w = item_cut c.args.id c.in-Some.place c.find-found.result
    (c.find-found.ensures (all_places c.self.inside.items.items c.self.inside.ending) c.self.invariant.kept.table) c.in-Some.is
    c.self.inside.zone c.self.invariant.kept (h n).1 below in
    both _ _ _ _ (c.cut_behind.ensures.items w.front w.rest w.item w.whole w.count) (c.cut_behind.ensures.end w.front w.rest
    w.item w.whole w.count) ∙
    (sym w.new ∙ (sym (not_one c.args.id (line_of c.self.inside.items.items c.self.inside.ending c.self.inside.zone) n) ∙
    ap (dropped c.args.id) c.self.view_is))

pub returns-else-place-len : goal.returns-else-place-len
returns-else-place-len c =
    let h = rw (← c.self.view_is) at c.requires in
    let n = not_same c.args.id c.if-id-eq1.false in
    let above : length c.self.inside.items.items ≤ c.in-Some.place.item = omega (arith, c.len.ensures, c.self.inside.items.ok.0) in
    let w = end_cut c.args.id c.in-Some.place c.find-found.result
    (c.find-found.ensures (all_places c.self.inside.items.items c.self.inside.ending) c.self.invariant.kept.table) c.in-Some.is
    c.self.inside.zone c.self.invariant.kept (h n).1 above in
    ap (λ y. line_of c.self.inside.items.items y None) (c.shorten.ensures.short ∙
    ap (λ y. with_body (take y (body_of c.self.inside.ending)) c.self.inside.ending) c.keep_of.ensures) ∙
    (sym w.1.1 ∙ (sym (not_one c.args.id (line_of c.self.inside.items.items c.self.inside.ending c.self.inside.zone) n) ∙
    ap (dropped c.args.id) c.self.view_is))

pub invariant_of-self-then-place-len : goal.invariant_of-self-then-place-len
invariant_of-self-then-place-len c =
    let h = rw (← c.self.view_is) at c.requires in
    let n = not_same c.args.id c.if-id-eq1.false in
    let below : c.in-Some.place.item < length c.self.inside.items.items = omega (arith, c.len.ensures, c.self.inside.items.ok.0) in
    let w = item_cut c.args.id c.in-Some.place c.find-found.result
    (c.find-found.ensures (all_places c.self.inside.items.items c.self.inside.ending) c.self.invariant.kept.table) c.in-Some.is
    c.self.inside.zone c.self.invariant.kept (h n).1 below in
    record {
      kept = record { table = c.cut_behind.ensures.table c.self.invariant.kept.table; zone = tt };
      sizes = c.truncate-then-place-len.ensures ∙ sizes_after c.in-Some.place.part w.front w.item w.rest c.self.inside.items.items
          c.cut_behind.new.items.items c.self.inside.sizes c.len-then-place-len.result w.whole
          (c.cut_behind.ensures.items w.front w.rest w.item w.whole w.count) c.self.invariant.sizes
          (omega (arith, c.len-then-place-len.ensures, c.cut_behind.new.items.ok.0));
    }
