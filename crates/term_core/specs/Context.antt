-- The sequent that a sequent stands for, and where a hypothesis stands.
use Rattle.std.specs.Prelude.{◌≡◌, ℕ, List, ◌∷◌, ◌++◌, length}
use Rattle.fol_theory.specs.Syntax.{Formula}
use Rattle.fol_theory.specs.Contexts.{Entry, hypothesis, variables, count, Sequent as Meaning}
use Rattle.fol_theory.specs.Slots.{entries}
use Rattle.term_core.specs.Formula as formula
use Rattle.term_core.specs.declared.context.Sequent.{Sequent}
pub use Rattle.term_core.specs.Slots.{slot_meaning, slots}

-- the sequent that a sequent stands for, without the names of its slots
abbrev pub meaning : Sequent → Meaning
meaning s = record { context = entries (slots s.context); goal = formula.meaning s.goal }

-- the hypothesis i of the entries, counted from the oldest, from 0, is a as it stands in its own entry, behind n newer variables
abbrev pub Stands : List Entry → ℕ → Formula → ℕ → Type 0
Stands c i a n = (newer : List Entry) × (older : List Entry)
    × (c ≡ newer ++ hypothesis a ∷ older) × (i ≡ count older) × (n ≡ length (variables newer))
