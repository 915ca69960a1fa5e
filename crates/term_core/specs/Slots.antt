-- The slots of the theory that the slots of a context stand for, the newest first.
use Rattle.std.specs.Prelude.{List, []}
use Rattle.std.specs.Arc.{arc_value}
use Rattle.fol_theory.specs.Contexts.{variable, hypothesis}
use Rattle.fol_theory.specs.Slots.{Slot as SlotMeaning, slot}
use Rattle.term_core.specs.Formula as formula
use Rattle.term_core.specs.declared.context.Slot.{Slot}
use Rattle.term_core.specs.declared.context.Slot.TheVariants.{Var, Hyp}
use Rattle.term_core.specs.declared.context.Context.{Context}
use Rattle.term_core.specs.declared.context.Context.TheVariants.{Empty, Pushed}

-- the slot of the theory that a slot stands for
abbrev pub slot_meaning : Slot → SlotMeaning
slot_meaning (Var n s) = slot n (variable s)
slot_meaning (Hyp n a) = slot n (hypothesis (formula.meaning a))

-- the slots of a context, the newest first
abbrev pub slots : Context → List SlotMeaning
slots Empty = []
slots (Pushed l) = arc_value l
