use Rattle.std.proofs.Common.{length, ap, sym, ◌∙◌, arith}
use Rattle.line_theory.specs.Lines.{items_ids, ids}
use Rattle.vcs_graph.proofs.Viewed.{line_ids}
use Rattle.vcs_graph.proofs.Listed.{kept_total, line_listed}
use Rattle.vcs_graph.proofs.graph.Graph.line.Goals as goal

pub put_items-requires : goal.put_items-requires
put_items-requires c = record {
  room = omega (
    arith,
    kept_total c.self.invariant.kept,
    c.len.ensures.len,
    c.in_ok-reserve.ensures.spare,
    ap (λ x. length (items_ids x)) c.as_slice.ensures.value,
  );
}

pub put_from-requires : goal.put_from-requires
put_from-requires c = record {
  room = omega (
    arith,
    kept_total c.self.invariant.kept,
    c.len.ensures.len,
    c.in_ok-reserve.ensures.spare,
    c.put_items.ensures.room,
    ap (λ x. length (items_ids x)) c.as_slice.ensures.value,
  );
}

pub returns : goal.returns
returns c =
    c.from_vec.ensures ∙ (c.into_vec.ensures ∙ (line_listed c.reserve.new.self.items c.put_items.new.list.items
    c.put_from.new.list.items c.self.inside.items.items c.as_slice.result.now c.self.inside.ending c.as_slice.ensures.value
    (c.reserve.ensures.items ∙ c.new-list.ensures) c.put_items.ensures.items c.put_from.ensures.items
    ∙ (sym (line_ids c.self.inside.items.items c.self.inside.ending c.self.inside.zone c.self.invariant.kept.zone)
    ∙ ap ids c.self.view_is)))
