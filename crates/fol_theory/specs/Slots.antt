-- Contexts whose entries have names, the newest first.
use Rattle.std.specs.Prelude.{ℕ, List, [], ◌∷◌, if◌then◌else◌, ◌==◌}
use Rattle.fol_theory.specs.Syntax.{is_name}
use Rattle.fol_theory.specs.Contexts.{Entry, variable, hypothesis, count}

-- an entry of a context with its name
pub record Slot : Type 0 where
  pub name : List ℕ
  pub entry : Entry

-- a slot from its parts
abbrev pub slot : List ℕ → Entry → Slot
slot n e = record { name = n; entry = e }

-- the slots without their names, in their order
abbrev pub entries : List Slot → List Entry
entries [] = []
entries (x ∷ c) = x.entry ∷ entries c

-- the names of the slots, in their order
abbrev pub names : List Slot → List (List ℕ)
names [] = []
names (x ∷ c) = x.name ∷ names c

-- of a slot, the slots behind it, and what is left of these without the hypothesis i: the slot goes if it is that hypothesis
abbrev pub unless : ℕ → Entry → Slot → List Slot → List Slot → List Slot
unless i (variable s) x c left = x ∷ left
unless i (hypothesis a) x c left = if i == count (entries c) then c else x ∷ left

-- the slots without the hypothesis i, counted from the oldest, from 0
abbrev pub slots_without : List Slot → ℕ → List Slot
slots_without [] i = []
slots_without (x ∷ c) i = unless i x.entry x c (slots_without c i)

-- the slots from the newest of that name on; none where no slot has the name
abbrev pub from_name : List ℕ → List Slot → List Slot
from_name n [] = []
from_name n (x ∷ c) = if is_name x.name n then x ∷ c else from_name n c
