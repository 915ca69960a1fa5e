use Rattle.term_core.specs.Formula.{meaning}
use Rattle.form_core.proofs.Depths.{shifted_reach}
use Rattle.form_core.proofs.made.shifted.Goals as goal

pub shift-requires-clause-indices : goal.shift-requires-clause-indices
shift-requires-clause-indices c = shifted_reach c.requires.0 c.requires.1 (meaning c.args.a.now) c.args.newer c.args.variables
    c.requires.2 c.requires.3 c.in_ok-binder_fits.ensures.fits
