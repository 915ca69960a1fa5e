use Rattle.std.proofs.Common.{◌≡◌, ◌+◌, length}
use Rattle.fol_theory.specs.Contexts.{variables}
use Rattle.fol_theory.specs.Slots.{entries}
use Rattle.term_core.specs.Context.{slots}
use Rattle.form_core.proofs.entry.count_variables.Given as goal

abbrev pub decreases-loop-slot : goal.decreases-loop-slot
decreases-loop-slot l = length (slots l.at)

abbrev pub invariant-loop-slot : goal.invariant-loop-slot
invariant-loop-slot l = l.n + length (variables (entries (slots l.at))) ≡ length (variables (entries (slots l.context)))
