use Rattle.stm_base.proofs.Puts.{IsPut-both}
use Rattle.batch_check.proofs.report.put_line.Goals as goal

pub returns : goal.returns
returns g c = IsPut-both _ _ _ _ _ c.put.ensures c.put-2.ensures
