-- The faults of the theory that refusals stand for, and the refusals that faults of typing are.
use Rattle.std.specs.Prelude.{Option, Some, None}
use Rattle.elab_core.specs.declared.fault.ElabFault.{ElabFault}
use Rattle.elab_core.specs.declared.fault.ElabFault.TheVariants.{
  UnknownName,
  WrongKind,
  WrongSort,
  WrongArity,
  AlreadyDeclared,
  NotOfForm,
  TooLarge,
  NoMemory,
}
use Rattle.tactic_theory.specs.States.{StepFault}
use Rattle.step_core.specs.declared.verdict.Fault.TheVariants as fault
use Rattle.step_core.specs.declared.refusal.Refusal.{Refusal}
use Rattle.step_core.specs.declared.refusal.Refusal.TheVariants as refusal
use Rattle.step_core.specs.Verdicts.{fault_of}

-- the fault of a refusal, or none for want of memory
abbrev pub refused : Refusal → Option StepFault
refused (refusal.Fault f) = Some (fault_of f)
refused refusal.NoMemory = None

-- the refusal that a fault of typing is
abbrev pub told_as : ElabFault → Refusal
told_as (UnknownName p) = refusal.Fault (fault.UnknownName p)
told_as (WrongKind p) = refusal.Fault (fault.WrongKind p)
told_as (WrongSort p) = refusal.Fault (fault.WrongSort p)
told_as (WrongArity p) = refusal.Fault (fault.WrongArity p)
told_as (AlreadyDeclared p) = refusal.Fault (fault.AlreadyDeclared p)
told_as NotOfForm = refusal.Fault fault.NotOfForm
told_as (TooLarge n h) = refusal.Fault (fault.TooLarge n h)
told_as NoMemory = refusal.NoMemory
