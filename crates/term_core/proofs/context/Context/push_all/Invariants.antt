use Rattle.std.proofs.Common.{◌≡◌, ◌++◌, map, length}
use Rattle.term_core.specs.Context.{slots, slot_meaning}
use Rattle.term_core.proofs.context.Context.push_all.Given as goal

abbrev pub invariant-loop-slot : goal.invariant-loop-slot
invariant-loop-slot l =
    map (λ s. slot_meaning s.now) l.newer.items ++ slots l.context
    ≡ map (λ s. slot_meaning s.now) l.fn.newer.items ++ slots l.fn.self

abbrev pub decreases-loop-slot : goal.decreases-loop-slot
decreases-loop-slot l = length l.newer.items
