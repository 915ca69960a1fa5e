use Rattle.std.proofs.Common.{map, length}
use Rattle.env_core.specs.Meaning.{declarations}
use Rattle.term_core.specs.Context.{slot_meaning, slots}
use Rattle.step_theory.specs.Texts.{taken_in}
use Rattle.step_core.proofs.Entries.{IsPut}
use Rattle.step_core.proofs.goals.put_context.Given as goal

abbrev pub invariant-loop-slot : goal.invariant-loop-slot
invariant-loop-slot l =
    let c = slots l.known.context.now in
    IsPut (taken_in (declarations l.known.env.now) c) c (map (λ s. slot_meaning s.now) l.newer.items) l.names.items l.initial.text.items l.text.items

abbrev pub decreases-loop-slot : goal.decreases-loop-slot
decreases-loop-slot l = length l.newer.items
