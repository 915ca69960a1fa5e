-- What a call answers against the wanted value or the first fault of the table.
use Rattle.std.specs.Prelude.{◌≡◌, Result, Ok, Err}
use Rattle.elab_theory.specs.Faults.{unknown_name, wrong_kind, wrong_sort, wrong_arity, already_declared}
use Rattle.elab_core.specs.declared.fault.ElabFault.{ElabFault}
use Rattle.elab_core.specs.declared.fault.ElabFault.TheVariants as typing
use Rattle.tactic_theory.specs.Faults.{
  Fault,
  of_typing,
  no_goal,
  no_such_hypothesis,
  not_of_form,
  cannot_match,
  name_taken,
  too_large,
}
use Rattle.tac_base.specs.declared.fault.TacFault.{TacFault}
use Rattle.tac_base.specs.declared.fault.TacFault.TheVariants.{
  NoGoal,
  NoSuchHyp,
  NotOfForm,
  CannotMatch,
  NameTaken,
  Elab,
  TooLarge,
  NoMemory,
}

-- a fault of typing or of evidence, as one of the table
abbrev pub told_as : ElabFault → TacFault
told_as (typing.UnknownName p) = Elab (typing.UnknownName p)
told_as (typing.WrongKind p) = Elab (typing.WrongKind p)
told_as (typing.WrongSort p) = Elab (typing.WrongSort p)
told_as (typing.WrongArity p) = Elab (typing.WrongArity p)
told_as (typing.AlreadyDeclared p) = Elab (typing.AlreadyDeclared p)
told_as typing.NotOfForm = NotOfForm
told_as (typing.TooLarge n h) = TooLarge n h
told_as typing.NoMemory = NoMemory

-- A fault of typing is the one that is wanted, where faults of the table are told by f. Those that have a kind of their own are never
-- told as faults of typing.
abbrev pub RefusesTyping : {Y F : Type 0} → (Fault → F) → ElabFault → Result Y F → Type 0
RefusesTyping f (typing.UnknownName p) wanted = wanted ≡ Err (f (of_typing (unknown_name p)))
RefusesTyping f (typing.WrongKind p) wanted = wanted ≡ Err (f (of_typing (wrong_kind p)))
RefusesTyping f (typing.WrongSort p) wanted = wanted ≡ Err (f (of_typing (wrong_sort p)))
RefusesTyping f (typing.WrongArity p) wanted = wanted ≡ Err (f (of_typing (wrong_arity p)))
RefusesTyping f (typing.AlreadyDeclared p) wanted = wanted ≡ Err (f (of_typing (already_declared p)))
RefusesTyping f typing.NotOfForm wanted = ⊥
RefusesTyping f (typing.TooLarge n h) wanted = ⊥
RefusesTyping f typing.NoMemory wanted = ⊥

-- the fault is the one that is wanted, where faults of the table are told by f, or want of memory
abbrev pub Refuses : {Y F : Type 0} → (Fault → F) → TacFault → Result Y F → Type 0
Refuses f NoGoal wanted = wanted ≡ Err (f no_goal)
Refuses f NoSuchHyp wanted = wanted ≡ Err (f no_such_hypothesis)
Refuses f NotOfForm wanted = wanted ≡ Err (f not_of_form)
Refuses f CannotMatch wanted = wanted ≡ Err (f cannot_match)
Refuses f NameTaken wanted = wanted ≡ Err (f name_taken)
Refuses f (Elab e) wanted = RefusesTyping f e wanted
Refuses f (TooLarge n h) wanted = wanted ≡ Err (f (too_large n h))
Refuses f NoMemory wanted = Unit {0}

-- the answer stands for the wanted value, or is the wanted fault, or want of memory
abbrev pub Gives : {X Y F : Type 0} → (X → Y) → (Fault → F) → Result X TacFault → Result Y F → Type 0
Gives meaning f (Ok x) wanted = wanted ≡ Ok (meaning x)
Gives meaning f (Err e) wanted = Refuses f e wanted
