use Rattle.std.proofs.Common.{◌≡◌, ◌++◌, map, length}
use Rattle.term_core.specs.Context.{slot_meaning, slots}
use Rattle.step_core.proofs.goals.slots_of.Given as goal

abbrev pub invariant-loop-slot : goal.invariant-loop-slot
invariant-loop-slot l = map (λ s. slot_meaning s.now) l.list.items ++ slots l.at ≡ slots l.context

abbrev pub decreases-loop-slot : goal.decreases-loop-slot
decreases-loop-slot l = length (slots l.at)
