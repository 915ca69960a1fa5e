use Rattle.batch_check.proofs.Derived.{good_closer}
use Rattle.batch_check.proofs.laws.good_closers_have_derivations.Goals as goal

pub returns : goal.returns
returns c = good_closer
