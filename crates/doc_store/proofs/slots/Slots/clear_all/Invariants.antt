use Rattle.std.proofs.Common.{take, None}
use Rattle.doc_store.proofs.Slotted.{Changed}
use Rattle.doc_store.proofs.slots.Slots.clear_all.Given as goal

abbrev pub invariant-loop-id : goal.invariant-loop-id
invariant-loop-id l = Changed (take l.id-index l.ids) (λ s. None) l.initial.self l.self
