use Rattle.std.proofs.Common.{◌↔◌, ℕ, List, length}
use Rattle.fol_theory.specs.Contexts.{variables}
use Rattle.fol_theory.specs.Slots.{entries}
use Rattle.term_core.specs.Context.{slots}
use Rattle.env_theory.specs.Typing.{At}
use Rattle.form_core.proofs.sorts.sort_of.Given as goal

abbrev pub decreases-loop-slot : goal.decreases-loop-slot
decreases-loop-slot l = length (slots l.at)

abbrev pub invariant-loop-slot : goal.invariant-loop-slot
invariant-loop-slot l = (s : List ℕ) → At (variables (entries (slots l.at))) l.left s ↔ At (variables (entries (slots l.context))) l.index s
