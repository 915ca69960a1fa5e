use Rattle.std.proofs.Common.{None, refl}
use Rattle.doc_store.proofs.Slotted.{one_more}
use Rattle.doc_store.proofs.slots.Slots.clear_all.Goals as goal

pub loop-id-preserved : goal.loop-id-preserved
loop-id-preserved c = one_more (λ s. None) (λ s. refl) c.args.ids.now c.loop-id.id-index c.loop-id-test.true c.args.self.now
    c.loop-id.self c.clear.new.self c.loop-id.invariant c.clear.ensures.slots c.clear.ensures.length
