use Rattle.stm_base.proofs.Puts.{IsPut-both}
use Rattle.stm_base.proofs.output.puts_join.Goals as goal

pub returns : goal.returns
returns c = IsPut-both
