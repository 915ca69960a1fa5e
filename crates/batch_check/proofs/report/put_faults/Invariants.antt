use Rattle.std.proofs.Common.{map, take}
use Rattle.stm_base.specs.Output.{IsPut}
use Rattle.batch_check.specs.Report.{fault_text, lines_of}
use Rattle.batch_check.specs.Run.{fault_in}
use Rattle.batch_check.proofs.report.put_faults.Given as goal

abbrev pub invariant-loop-fault : goal.invariant-loop-fault
invariant-loop-fault g l = IsPut l.initial.out (lines_of fault_text (take l.fault-index (map fault_in l.faults))) l.out
