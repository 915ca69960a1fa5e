-- What a call answers against the evidence that is wanted, or its first fault.
use Rattle.std.specs.Prelude.{◌≡◌, List, Result, Ok, Err}
use Rattle.fol_theory.specs.Slots.{Slot}
use Rattle.env_theory.specs.Declarations.{Declaration}
use Rattle.elab_theory.specs.Faults.{unknown_name, wrong_kind, wrong_sort, wrong_arity, already_declared}
use Rattle.elab_core.specs.declared.fault.ElabFault.{ElabFault}
use Rattle.elab_core.specs.declared.fault.ElabFault.TheVariants.{
  UnknownName,
  WrongKind,
  WrongSort,
  WrongArity,
  AlreadyDeclared,
  NotOfForm,
  TooLarge,
  NoMemory,
}
use Rattle.tactic_theory.specs.Faults.{Fault, of_typing, not_of_form}
use Rattle.tactic_theory.specs.Evidence.{Evidence}
use Rattle.evidence_core.specs.Showings.{Showing, StandsFor}

-- the fault is the one that is wanted, or want of memory
abbrev pub Fails : {Y : Type 0} → ElabFault → Result Y Fault → Type 0
Fails (UnknownName p) wanted = wanted ≡ Err (of_typing (unknown_name p))
Fails (WrongKind p) wanted = wanted ≡ Err (of_typing (wrong_kind p))
Fails (WrongSort p) wanted = wanted ≡ Err (of_typing (wrong_sort p))
Fails (WrongArity p) wanted = wanted ≡ Err (of_typing (wrong_arity p))
Fails (AlreadyDeclared p) wanted = wanted ≡ Err (of_typing (already_declared p))
Fails NotOfForm wanted = wanted ≡ Err not_of_form
Fails (TooLarge n h) wanted = ⊥
Fails NoMemory wanted = Unit {0}

-- What is made stands for what the evidence comes to that is wanted, else the fault is the wanted one. A value made stands for `showing`
-- of it.
abbrev pub Tells : {X : Type 0} → (X → Showing) → List Declaration → List Slot → Result X ElabFault → Result Evidence Fault → Type 0
Tells showing E c (Ok x) wanted = StandsFor E c wanted (showing x)
Tells showing E c (Err f) wanted = Fails f wanted

-- the same of a call that leaves what it makes in a place
abbrev pub Leaves : {X Y : Type 0} → (X → Showing) → List Declaration → List Slot → X → Result Y ElabFault → Result Evidence Fault → Type 0
Leaves showing E c x (Ok y) wanted = StandsFor E c wanted (showing x)
Leaves showing E c x (Err f) wanted = Fails f wanted
