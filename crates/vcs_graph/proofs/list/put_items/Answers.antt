use Rattle.std.proofs.Common.{◌+◌, length, ap, arith}
use Rattle.vcs_graph.proofs.Zones.{count_step}
use Rattle.vcs_graph.proofs.Listed.{first_rest, list_more}
use Rattle.vcs_graph.proofs.list.put_items.Goals as goal

pub put_from-requires : goal.put_from-requires
put_from-requires c =
    let h = count_step c.args.items.now c.loop-item.item-index (c.loop-item.item-index + 1) c.item-item.result (omega arith)
    c.loop-item-test.true c.item-item.is in
    record { room = omega (arith, h.0, h.1, c.loop-item.invariant.1, c.requires.room) }

pub loop-item-preserved : goal.loop-item-preserved
loop-item-preserved c =
    let h = count_step c.args.items.now c.loop-item.item-index (c.loop-item.item-index + 1) c.item-item.result (omega arith)
    c.loop-item-test.true c.item-item.is in (
      list_more c.put_from.new.list.items c.loop-item.list.items c.args.list.now.items c.args.items.now c.loop-item.item-index
          (c.loop-item.item-index + 1) c.item-item.result (omega arith) c.loop-item-test.true c.item-item.is
          c.put_from.ensures.items c.loop-item.invariant.0,
      omega (arith, h.0, h.1, c.loop-item.invariant.1, c.put_from.ensures.room, ap length (first_rest c.item-item.result)),
    )
