use Rattle.std.proofs.Common.{◌≡◌, ◌++◌, map}
use Rattle.fol_theory.specs.Contexts.{count}
use Rattle.fol_theory.specs.Slots.{entries, slots_without}
use Rattle.term_core.specs.Context.{slots, slot_meaning}
use Rattle.term_core.proofs.context.Context.without.Given as goal

abbrev pub invariant-loop-at : goal.invariant-loop-at
invariant-loop-at l =
    (l.left ≡ count (entries (slots l.at)))
    × (slots_without (slots l.self) l.number ≡ map (λ s. slot_meaning s.now) l.newer.items ++ slots_without (slots l.at) l.number)
    × (slots l.self ≡ map (λ s. slot_meaning s.now) l.newer.items ++ slots l.at)
