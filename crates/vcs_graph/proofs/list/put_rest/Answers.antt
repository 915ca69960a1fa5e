use Rattle.std.proofs.Common.{◌+◌, length, ap, arith}
use Rattle.line_theory.specs.Lines.{items_ids}
use Rattle.vcs_graph.proofs.Listed.{number_room, part_short, take_rest}
use Rattle.vcs_graph.proofs.list.put_rest.Goals as goal

pub put_from-requires : goal.put_from-requires
put_from-requires c =
    let r = number_room c.args.items.now c.args.place.item (c.args.place.item + 1) c.index-items-place.result (omega arith)
    c.if-place-items.true c.index-items-place.is in
    record { room = omega (arith, r, c.requires.room) }

pub put_items-requires : goal.put_items-requires
put_items-requires c =
    let r = number_room c.args.items.now c.args.place.item (c.args.place.item + 1) c.index-items-place.result (omega arith)
    c.if-place-items.true c.index-items-place.is in
    let s = part_short c.args.place.part c.index-items-place.result in
    let t = ap (λ y. length (items_ids y)) (take_rest c.args.items.now (c.args.place.item + 1) (omega (arith, c.if-place-items.true))) in
    record { room = omega (arith, r, s, t, c.requires.room, c.put_from.ensures.room) }

pub put_from-requires-then-place-items : goal.put_from-requires-then-place-items
put_from-requires-then-place-items c =
    let r = number_room c.args.items.now c.args.place.item (c.args.place.item + 1) c.index-items-place.result (omega arith)
    c.if-place-items.true c.index-items-place.is in
    let s = part_short c.args.place.part c.index-items-place.result in
    let t = ap (λ y. length (items_ids y)) (take_rest c.args.items.now (c.args.place.item + 1) (omega (arith, c.if-place-items.true))) in
    record { room = omega (arith, r, s, t, c.requires.room, c.put_from.ensures.room, c.put_items.ensures.room) }
