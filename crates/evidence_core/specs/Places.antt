-- Where evidence is read.
use Rattle.std.specs.Prelude.{◌≤◌, ℕ, List, length}
use Rattle.fol_theory.specs.Contexts.{variables}
use Rattle.fol_theory.specs.Slots.{Slot, entries}
use Rattle.env_theory.specs.Declarations.{Declaration}
use Rattle.env_theory.specs.Typing.{Environment}
use Rattle.logic_theory.specs.Rules.{FormedContext}
use Rattle.term_core.specs.Context.{slots}
use Rattle.env_core.specs.Meaning.{declarations}
use Rattle.evidence_core.specs.declared.place.Place.{Place}

-- an environment and a well formed context of at most so many variables
pub record IsPlace (E : List Declaration) (c : List Slot) (n : ℕ) : Type 0 where
  pub environment : Environment E
  pub formed : FormedContext E (entries c)
  pub counted : length (variables (entries c)) ≤ n

-- the declarations of a place
abbrev pub env_of : Place → List Declaration
env_of p = declarations p.env.now

-- the slots of its context
abbrev pub context_of : Place → List Slot
context_of p = slots p.context.now

-- it is one
abbrev pub IsReady : Place → Type 0
IsReady p = IsPlace (env_of p) (context_of p) p.variables
