-- The faults of the theory that faults of bullets and braces stand for.
use Rattle.std.specs.Prelude.{Option, Some, None}
use Rattle.tactic_theory.specs.Faults.{no_goal}
use Rattle.tactic_theory.specs.States.{StepFault, row_fault, bad_bullet}
use Rattle.proof_state.specs.declared.fault.BulletFault.{BulletFault}
use Rattle.proof_state.specs.declared.fault.BulletFault.TheVariants.{NoGoal, BadBullet, NoMemory}

-- the fault, or none for want of memory
abbrev pub fault_of : BulletFault → Option StepFault
fault_of NoGoal = Some (row_fault no_goal)
fault_of BadBullet = Some bad_bullet
fault_of NoMemory = None
