-- What a call answers against the wanted value or first fault.
use Rattle.std.specs.Prelude.{◌≡◌, Result, Ok, Err}
use Rattle.elab_theory.specs.Faults.{Fault, unknown_name, wrong_kind, wrong_sort, wrong_arity, already_declared}
use Rattle.elab_core.specs.declared.fault.ElabFault.{ElabFault}
use Rattle.elab_core.specs.declared.fault.ElabFault.TheVariants.{
  UnknownName,
  WrongKind,
  WrongSort,
  WrongArity,
  AlreadyDeclared,
  NotOfForm,
  TooLarge,
  NoMemory,
}

-- the fault is the one that is wanted, or want of memory
abbrev pub Faulty : {Y : Type 0} → ElabFault → Result Y Fault → Type 0
Faulty (UnknownName p) w = w ≡ Err (unknown_name p)
Faulty (WrongKind p) w = w ≡ Err (wrong_kind p)
Faulty (WrongSort p) w = w ≡ Err (wrong_sort p)
Faulty (WrongArity p) w = w ≡ Err (wrong_arity p)
Faulty (AlreadyDeclared p) w = w ≡ Err (already_declared p)
Faulty NotOfForm w = ⊥
Faulty (TooLarge n h) w = ⊥
Faulty NoMemory w = Unit {0}

-- the answer stands for the wanted value, or is the wanted fault, or want of memory
abbrev pub Gives : {X Y : Type 0} → (X → Y) → Result X ElabFault → Result Y Fault → Type 0
Gives f (Ok x) w = w ≡ Ok (f x)
Gives f (Err e) w = Faulty e w
