-- The faults and verdicts of the theory that those of the code stand for.
use Rattle.elab_theory.specs.Faults.{unknown_name, wrong_kind, wrong_sort, wrong_arity, already_declared}
use Rattle.tactic_theory.specs.Faults as row
use Rattle.tactic_theory.specs.States.{StepFault, row_fault, bad_bullet, unfinished}
use Rattle.script_theory.specs.Sentences as script
use Rattle.step_core.specs.declared.verdict.Fault.{Fault}
use Rattle.step_core.specs.declared.verdict.Fault.TheVariants.{
  UnknownName,
  WrongKind,
  WrongSort,
  WrongArity,
  AlreadyDeclared,
  TooLarge,
  NoGoal,
  NoSuchHyp,
  NotOfForm,
  CannotMatch,
  NameTaken,
  BadBullet,
  Unfinished,
}
use Rattle.step_core.specs.declared.verdict.Verdict.{Verdict}
use Rattle.step_core.specs.declared.verdict.Verdict.TheVariants as verdict

-- the fault that one stands for
abbrev pub fault_of : Fault → StepFault
fault_of (UnknownName p) = row_fault (row.of_typing (unknown_name p))
fault_of (WrongKind p) = row_fault (row.of_typing (wrong_kind p))
fault_of (WrongSort p) = row_fault (row.of_typing (wrong_sort p))
fault_of (WrongArity p) = row_fault (row.of_typing (wrong_arity p))
fault_of (AlreadyDeclared p) = row_fault (row.of_typing (already_declared p))
fault_of (TooLarge n h) = row_fault (row.too_large n h)
fault_of NoGoal = row_fault row.no_goal
fault_of NoSuchHyp = row_fault row.no_such_hypothesis
fault_of NotOfForm = row_fault row.not_of_form
fault_of CannotMatch = row_fault row.cannot_match
fault_of NameTaken = row_fault row.name_taken
fault_of BadBullet = bad_bullet
fault_of (Unfinished n) = unfinished n

-- the verdict that one stands for; none stands for the verdict on a sentence out of place
abbrev pub verdict_of : Verdict → script.Verdict
verdict_of verdict.Good = script.good
verdict_of (verdict.Fault f) = script.faulty (fault_of f)
verdict_of (verdict.Blocked id) = script.blocked id
