use Rattle.batch_check.proofs.Putting.{behind}
use Rattle.batch_check.proofs.report.put_fault.Goals as goal

pub returns : goal.returns
returns g c = behind _ _ _ _ _ c.put.ensures c.put_numbered.ensures
