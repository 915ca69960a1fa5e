use Rattle.session_run.proofs.Grown.{kept-close}
use Rattle.session_run.proofs.live.Live.close.Goals as goal

pub invariant_of-self : goal.invariant_of-self
invariant_of-self g c = kept-close c.self.invariant c.close.ensures.history c.close.ensures.limit
