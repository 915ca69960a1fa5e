use Rattle.std.proofs.Common.{◌+◌, length, length-take, ap, ◌∙◌, arith}
use Rattle.line_theory.specs.Lines.{zoned}
use Rattle.vcs_graph.specs.Table.{all_places}
use Rattle.vcs_graph.proofs.Befores.{absent_no}
use Rattle.vcs_graph.proofs.Zones.{opening, opened_kept, opened_is, opened_at, opening_room, opening_below, opening_block}
use Rattle.vcs_graph.proofs.Sized.{start_sum, opened_within, opened_small, opened_sizes}
use Rattle.vcs_graph.proofs.graph.Graph.open_zone.Goals as goal

pub returns-in_default-clause-zone : goal.returns-in_default-clause-zone
returns-in_default-clause-zone c =
    absurd (absent_no c.self.invariant.kept c.args.id c.find.result
    (c.find.ensures (all_places c.self.inside.items.items c.self.inside.ending) c.self.invariant.kept.table) c.in_default.is
    (rw c.self.view_is c.requires.live))

pub returns-in_default-clause-at : goal.returns-in_default-clause-at
returns-in_default-clause-at c =
    absurd (absent_no c.self.invariant.kept c.args.id c.find.result
    (c.find.ensures (all_places c.self.inside.items.items c.self.inside.ending) c.self.invariant.kept.table) c.in_default.is
    (rw c.self.view_is c.requires.live))

pub start_of-start-requires : goal.start_of-start-requires
start_of-start-requires c =
    let w = opening c.self.inside.zone c.self.invariant.kept c.args.id c.in-Some.place c.find.result
    (c.find.ensures (all_places c.self.inside.items.items c.self.inside.ending) c.self.invariant.kept.table) c.in-Some.is
    (rw c.self.view_is c.requires.opens) in
    omega (arith, opened_within w c.self.invariant.sizes)

pub index_mut-requires : goal.index_mut-requires
index_mut-requires c =
    let w = opening c.self.inside.zone c.self.invariant.kept c.args.id c.in-Some.place c.find.result
    (c.find.ensures (all_places c.self.inside.items.items c.self.inside.ending) c.self.invariant.kept.table) c.in-Some.is
    (rw c.self.view_is c.requires.opens) in
    omega (arith, opening_below w, c.self.inside.items.ok.0)

pub shorten-requires : goal.shorten-requires
shorten-requires c =
    let w = opening c.self.inside.zone c.self.invariant.kept c.args.id c.in-Some.place c.find.result
    (c.find.ensures (all_places c.self.inside.items.items c.self.inside.ending) c.self.invariant.kept.table) c.in-Some.is
    (rw c.self.view_is c.requires.opens) in
    opening_block w c.index_mut.result.now c.index_mut.ensures.value

pub overflow_add-result : goal.overflow_add-result
overflow_add-result c =
    let w = opening c.self.inside.zone c.self.invariant.kept c.args.id c.in-Some.place c.find.result
    (c.find.ensures (all_places c.self.inside.items.items c.self.inside.ending) c.self.invariant.kept.table) c.in-Some.is
    (rw c.self.view_is c.requires.opens) in
    let r = opening_room c.self.invariant.kept w in
    let s = w.start c.start_of-start.result (start_sum c.self.inside.zone c.self.inside.items.items c.self.inside.sizes
    c.in-Some.place.item c.start_of-start.result c.self.invariant.sizes c.start_of-start.ensures) in
    omega (arith, r, s, c.keep_of-keep.ensures, c.len-total.ensures.small, c.len-total.ensures.len)

pub set-requires-clause-within : goal.set-requires-clause-within
set-requires-clause-within c =
    let w = opening c.self.inside.zone c.self.invariant.kept c.args.id c.in-Some.place c.find.result
    (c.find.ensures (all_places c.self.inside.items.items c.self.inside.ending) c.self.invariant.kept.table) c.in-Some.is
    (rw c.self.view_is c.requires.opens) in
    opened_within w c.self.invariant.sizes

pub set-requires-clause-small : goal.set-requires-clause-small
set-requires-clause-small c =
    let w = opening c.self.inside.zone c.self.invariant.kept c.args.id c.in-Some.place c.find.result
    (c.find.ensures (all_places c.self.inside.items.items c.self.inside.ending) c.self.invariant.kept.table) c.in-Some.is
    (rw c.self.view_is c.requires.opens) in
    omega (
      arith,
      opened_small w c.self.invariant.sizes c.index_mut.result.now c.index_mut.ensures.value (c.keep_of-keep.result + 2)
          (omega (arith, c.keep_of-keep.ensures)) c.self.invariant.kept,
      c.len-total.ensures.small,
      c.len-total.ensures.len,
    )

pub invariant_of-self : goal.invariant_of-self
invariant_of-self c =
    let w = opening c.self.inside.zone c.self.invariant.kept c.args.id c.in-Some.place c.find.result
    (c.find.ensures (all_places c.self.inside.items.items c.self.inside.ending) c.self.invariant.kept.table) c.in-Some.is
    (rw c.self.view_is c.requires.opens) in
    let s = w.start c.start_of-start.result (start_sum c.self.inside.zone c.self.inside.items.items c.self.inside.sizes
    c.in-Some.place.item c.start_of-start.result c.self.invariant.sizes c.start_of-start.ensures) in
    record {
      kept = opened_kept c.self.invariant.kept.table w c.index_mut.result.now c.shorten.new.self c.index_mut.ensures.value
          (rw c.keep_of-keep.ensures at c.shorten.ensures.short) c.shorten.ensures.table c.start_of-start.result s;
      sizes = c.set.ensures ∙ opened_sizes w c.self.invariant.sizes c.index_mut.result.now c.index_mut.ensures.value
          (c.keep_of-keep.result + 2) (omega (arith, c.keep_of-keep.ensures)) c.shorten.new.self
          (rw c.keep_of-keep.ensures at c.shorten.ensures.short);
    }

pub returns-clause-zone : goal.returns-clause-zone
returns-clause-zone c =
    let w = opening c.self.inside.zone c.self.invariant.kept c.args.id c.in-Some.place c.find.result
    (c.find.ensures (all_places c.self.inside.items.items c.self.inside.ending) c.self.invariant.kept.table) c.in-Some.is
    (rw c.self.view_is c.requires.opens) in
    opened_is w c.index_mut.result.now c.shorten.new.self c.index_mut.ensures.value
    (rw c.keep_of-keep.ensures at c.shorten.ensures.short) c.start_of-start.result ∙ ap (zoned c.args.id) c.self.view_is

pub returns-clause-at : goal.returns-clause-at
returns-clause-at c =
    let w = opening c.self.inside.zone c.self.invariant.kept c.args.id c.in-Some.place c.find.result
    (c.find.ensures (all_places c.self.inside.items.items c.self.inside.ending) c.self.invariant.kept.table) c.in-Some.is
    (rw c.self.view_is c.requires.opens) in
    let s = w.start c.start_of-start.result (start_sum c.self.inside.zone c.self.inside.items.items c.self.inside.sizes
    c.in-Some.place.item c.start_of-start.result c.self.invariant.sizes c.start_of-start.ensures) in
    rw c.keep_of-keep.ensures (opened_at w c.index_mut.result.now c.shorten.new.self c.index_mut.ensures.value
    (rw c.keep_of-keep.ensures at c.shorten.ensures.short) c.start_of-start.result s)

pub overflow_add-keep : goal.overflow_add-keep
overflow_add-keep c =
    let w = opening c.self.inside.zone c.self.invariant.kept c.args.id c.in-Some.place c.find.result
    (c.find.ensures (all_places c.self.inside.items.items c.self.inside.ending) c.self.invariant.kept.table) c.in-Some.is
    (rw c.self.view_is c.requires.opens) in
    let r = opening_room c.self.invariant.kept w in
    omega (arith, r, c.keep_of-keep.ensures, c.len-total.ensures.small, c.len-total.ensures.len)
