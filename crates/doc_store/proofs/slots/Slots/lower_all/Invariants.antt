use Rattle.std.proofs.Common.{take, option_map}
use Rattle.doc_store.specs.Slots.{lowered}
use Rattle.doc_store.proofs.Slotted.{Changed}
use Rattle.doc_store.proofs.slots.Slots.lower_all.Given as goal

abbrev pub invariant-loop-id : goal.invariant-loop-id
invariant-loop-id l = Changed (take l.id-index l.ids) (option_map lowered) l.initial.self l.self
