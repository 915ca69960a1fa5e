use Rattle.std.proofs.Common.{◌<◌, ◌≤◌, Some, length, sym, ap, ◌∙◌, arith}
use Rattle.vcs_graph.specs.Table.{all_places}
use Rattle.line_theory.specs.Lines.{refolded}
use Rattle.vcs_graph.specs.Blocks.{block_in}
use Rattle.vcs_graph.proofs.Absent.{block_absent}
use Rattle.vcs_graph.proofs.Held.{refolded_line, block_closed, block_none, block_open, block_open_none}
use Rattle.vcs_graph.proofs.graph.Graph.block.Goals as goal

pub returns-in_default : goal.returns-in_default
returns-in_default c =
    sym (block_absent c.args.id c.self.inside.items.items c.self.inside.ending
    (sym (c.find.ensures (all_places c.self.inside.items.items c.self.inside.ending) c.self.invariant.kept.table) ∙ c.in_default.is))
    ∙ ap (block_in c.args.id) (sym (refolded_line c.self.inside.items.items c.self.inside.ending c.self.inside.zone
    c.self.invariant.kept.zone) ∙ ap refolded c.self.view_is)

pub returns-in-Some-closer : goal.returns-in-Some-closer
returns-in-Some-closer c =
    let below : c.in-Some.place.item < length c.self.inside.items.items = omega (arith, c.len.ensures, c.self.inside.items.ok.0) in
    ap (λ y. Some (record { start = y; stop = Some c.in-Some-closer.closer.id; opaque = c.in-Some-closer.closer.opaque }))
    c.first.ensures ∙ (block_closed c.self.inside.items.items c.self.inside.ending c.args.id c.in-Some.place c.find.result
    (c.find.ensures (all_places c.self.inside.items.items c.self.inside.ending) c.self.invariant.kept.table) c.in-Some.is below
    c.index-segment.result.now c.index-segment.ensures c.in-Some-closer.closer (sym c.closer.ensures ∙ c.in-Some-closer.is)
    ∙ ap (block_in c.args.id) (sym (refolded_line c.self.inside.items.items c.self.inside.ending c.self.inside.zone
    c.self.invariant.kept.zone) ∙ ap refolded c.self.view_is))

pub returns-in-None : goal.returns-in-None
returns-in-None c =
    let below : c.in-Some.place.item < length c.self.inside.items.items = omega (arith, c.len.ensures, c.self.inside.items.ok.0) in
    block_none c.self.inside.items.items c.self.inside.ending c.args.id c.in-Some.place c.find.result
    (c.find.ensures (all_places c.self.inside.items.items c.self.inside.ending) c.self.invariant.kept.table) c.in-Some.is below
    c.index-segment.result.now c.index-segment.ensures (sym c.closer.ensures ∙ c.in-None.is) ∙
    ap (block_in c.args.id) (sym (refolded_line c.self.inside.items.items c.self.inside.ending c.self.inside.zone
    c.self.invariant.kept.zone) ∙ ap refolded c.self.view_is)

pub returns-in-Some-lemma : goal.returns-in-Some-lemma
returns-in-Some-lemma c =
    let above : length c.self.inside.items.items ≤ c.in-Some.place.item = omega (arith, c.len.ensures, c.self.inside.items.ok.0) in
    block_open c.self.inside.items.items c.self.inside.ending c.args.id c.in-Some.place c.find.result
    (c.find.ensures (all_places c.self.inside.items.items c.self.inside.ending) c.self.invariant.kept.table) c.in-Some.is above
    c.in-Some-lemma.lemma (sym c.lemma.ensures ∙ c.in-Some-lemma.is) ∙
    ap (block_in c.args.id) (sym (refolded_line c.self.inside.items.items c.self.inside.ending c.self.inside.zone
    c.self.invariant.kept.zone) ∙ ap refolded c.self.view_is)

pub returns-in-None-lemma : goal.returns-in-None-lemma
returns-in-None-lemma c =
    let above : length c.self.inside.items.items ≤ c.in-Some.place.item = omega (arith, c.len.ensures, c.self.inside.items.ok.0) in
    block_open_none c.self.inside.items.items c.self.inside.ending c.args.id c.in-Some.place c.find.result
    (c.find.ensures (all_places c.self.inside.items.items c.self.inside.ending) c.self.invariant.kept.table) c.in-Some.is above
    (sym c.lemma.ensures ∙ c.in-None-lemma.is) ∙
    ap (block_in c.args.id) (sym (refolded_line c.self.inside.items.items c.self.inside.ending c.self.inside.zone
    c.self.invariant.kept.zone) ∙ ap refolded c.self.view_is)
