use Rattle.std.proofs.Common.{◌≡◌, ◌++◌, map, length}
use Rattle.term_core.specs.Context.{slots, slot_meaning}
use Rattle.proof_tree.specs.Stacks.{renamed}
use Rattle.proof_tree.proofs.labels.push_renamed.Given as goal

abbrev pub invariant-loop-slot : goal.invariant-loop-slot
invariant-loop-slot l =
    map (λ p. renamed (slot_meaning p.0.now) p.1.now) l.newer.items ++ slots l.made
    ≡ map (λ p. renamed (slot_meaning p.0.now) p.1.now) l.fn.newer.items ++ slots l.context

abbrev pub decreases-loop-slot : goal.decreases-loop-slot
decreases-loop-slot l = length l.newer.items
