-- Why a value is no command, and answers that may be want of memory.
use Rattle.std.specs.Prelude.{ℕ, List, Option, Some, None, Result}
use Rattle.base_core.specs.Answers.{Answers, AnswersWhere}
use Rattle.serapi_cmd.specs.declared.fault.CmdFault.{CmdFault}
use Rattle.serapi_cmd.specs.declared.fault.CmdFault.TheVariants.{UnknownCommand, BadField, BadNumber, NoMemory}

-- no command word where one has to stand; a field, an option or a command of this name that has not its form; no number
pub data Fault : Type 0 where
  unknown_command : Fault
  bad_field : List ℕ → Fault
  bad_number : Fault

-- the fault that an error is; none is want of memory
abbrev pub fault_of : CmdFault → Option Fault
fault_of UnknownCommand = Some unknown_command
fault_of (BadField name) = Some (bad_field name)
fault_of BadNumber = Some bad_number
fault_of NoMemory = None

-- the answer is the one that is wanted, or want of memory
abbrev pub Reads : {X : Type 0} → Result X CmdFault → Result X Fault → Type 0
Reads {X} result wanted = Answers (λ (x : X). x) fault_of result wanted

-- the same of an answer that is there exactly where one is wanted
abbrev pub ReadsWhere : {X : Type 0} → Option (Result X CmdFault) → Option (Result X Fault) → Type 0
ReadsWhere {X} result wanted = AnswersWhere (λ (x : X). x) fault_of result wanted
