use Rattle.std.proofs.Common.{option_map}
use Rattle.doc_store.specs.Slots.{lowered}
use Rattle.doc_store.proofs.Slotted.{one_more, lowered_twice}
use Rattle.doc_store.proofs.slots.Slots.lower_all.Goals as goal

pub loop-id-preserved : goal.loop-id-preserved
loop-id-preserved c = one_more (option_map lowered) lowered_twice c.args.ids.now c.loop-id.id-index c.loop-id-test.true c.args.self.now
    c.loop-id.self c.lower.new.self c.loop-id.invariant c.lower.ensures.slots c.lower.ensures.length
