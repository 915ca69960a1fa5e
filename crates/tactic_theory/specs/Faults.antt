-- Why a refinement fails.
use Rattle.std.specs.Prelude.{ℕ, Result, Ok, Err}
use Rattle.elab_theory.specs.Faults.{Fault as TypingFault}

-- a fault of typing in an argument; nothing is focused; no hypothesis has the name; the formula hasn't the form that is asked for;
-- what is shown is another formula, or no instance is found; the name is taken; a new formula or its normal form has so many
-- nodes and this height
pub data Fault : Type 0 where
  of_typing : TypingFault → Fault
  no_goal no_such_hypothesis not_of_form cannot_match name_taken : Fault
  too_large : ℕ → ℕ → Fault

-- an answer of typing, as one of the table
abbrev pub from_typing : {X : Type 0} → Result X TypingFault → Result X Fault
from_typing (Ok x) = Ok x
from_typing (Err e) = Err (of_typing e)
