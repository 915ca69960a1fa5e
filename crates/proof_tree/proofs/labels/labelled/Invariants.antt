use Rattle.std.proofs.Common.{◌≡◌, ◌+◌, ◌≤◌, ◌++◌, map, length, take, drop, reverse}
use Rattle.fol_theory.specs.Slots.{entries}
use Rattle.logic_theory.specs.Goals.{label}
use Rattle.term_core.specs.Context.{slots, slot_meaning}
use Rattle.proof_tree.specs.Stacks.{renamed}
use Rattle.proof_tree.proofs.labels.labelled.Given as goal

abbrev pub invariant-loop-slot : goal.invariant-loop-slot
invariant-loop-slot l =
    let newer = map (λ p. renamed (slot_meaning p.0.now) p.1.now) l.newer.items in
    record {
      counted : (l.left ≡ length (slots l.at)) × (l.left + length l.newer.items ≡ length l.names) × (l.anew ≤ length l.newer.items);
      named : label (reverse l.names) (entries (slots l.context)) ≡ newer ++ label (reverse (take l.left l.names)) (entries (slots l.at));
      kept : slots l.shared ≡ drop l.anew newer ++ slots l.at;
    }

abbrev pub decreases-loop-slot : goal.decreases-loop-slot
decreases-loop-slot l = length (slots l.at)
