use Rattle.std.proofs.Common.{◌≤◌, ◌+◌, length, refl, sym, ap, subst, ◌∙◌, slice_index_or, arith}
use Rattle.edit_core.proofs.Runs.{Running, running_skip, running_more, running_stop}
use Rattle.edit_core.proofs.removal.remove_all.Goals as goal
use Rattle.edit_core.proofs.removal.remove_all.Goals.{in-Unknown, in-Removed}

pub returns-in-Refused-clause-removed : goal.returns-in-Refused-clause-removed
returns-in-Refused-clause-removed c =
    (running_stop c.loop-id.invariant.0 (c.loop-id.id-index + 1) (slice_index_or c.args.list.now c.loop-id.id-index 0)
    (omega arith) c.loop-id-test.true refl c.remove.result c.remove.ensures.told c.in-Refused.stop c.in-Refused.is
    c.remove.new.graph c.remove.ensures.line c.remove.new.gone.items c.remove.ensures.gone).1.1.0

pub returns-in-Refused-clause-end : goal.returns-in-Refused-clause-end
returns-in-Refused-clause-end c =
    (running_stop c.loop-id.invariant.0 (c.loop-id.id-index + 1) (slice_index_or c.args.list.now c.loop-id.id-index 0)
    (omega arith) c.loop-id-test.true refl c.remove.result c.remove.ensures.told c.in-Refused.stop c.in-Refused.is
    c.remove.new.graph c.remove.ensures.line c.remove.new.gone.items c.remove.ensures.gone).1.1.1

pub loop-id-preserved : goal.loop-id-preserved
loop-id-preserved c = (
  elim c.match-remove.branch as (λ _. Running c.args.list.now (c.loop-id.id-index + 1) c.args.graph.now c.remove.new.graph
      c.args.edits.now.items c.match-remove.edits.items c.args.removed.now.items c.remove.new.gone.items (c.loop-id.treated + 1)) [
        | in-Unknown w ↦ subst (λ z. Running c.args.list.now (c.loop-id.id-index + 1) c.args.graph.now c.remove.new.graph
            c.args.edits.now.items z.items c.args.removed.now.items c.remove.new.gone.items (c.loop-id.treated + 1)) (sym w.edits-is)
            (running_skip c.loop-id.invariant.0 (c.loop-id.id-index + 1) (slice_index_or c.args.list.now c.loop-id.id-index 0)
            (omega arith) c.loop-id-test.true refl c.remove.result c.remove.ensures.told w.in-Unknown.is c.remove.new.graph
            c.remove.ensures.line c.remove.new.gone.items c.remove.ensures.gone)
        | in-Removed w ↦ running_more c.loop-id.invariant.0 (c.loop-id.id-index + 1)
            (slice_index_or c.args.list.now c.loop-id.id-index 0) (omega arith) c.loop-id-test.true refl c.remove.result
            c.remove.ensures.told w.in-Removed.edit w.in-Removed.is c.remove.new.graph c.remove.ensures.line c.remove.new.gone.items
            c.remove.ensures.gone
            c.match-remove.edits.items (ap (λ z. z.items) w.edits-is ∙ w.push_reserved.ensures.items)
      ],
  (
    omega (arith, c.loop-id.invariant.1.0),
    (
      c.remove.ensures.room,
      elim c.match-remove.branch as (λ _. length c.args.list.now ≤ c.match-remove.edits.spare + (c.loop-id.id-index + 1)) [
        | in-Unknown w ↦ omega (arith, c.loop-id.invariant.1.1.1, ap (λ z. z.spare) w.edits-is)
        | in-Removed w ↦ omega (arith, c.loop-id.invariant.1.1.1, ap (λ z. z.spare) w.edits-is, w.push_reserved.ensures.spare)
      ],
    ),
  ),
)
