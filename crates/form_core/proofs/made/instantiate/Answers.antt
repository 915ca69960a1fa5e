use Rattle.term_core.specs.Formula.{meaning}
use Rattle.term_core.specs.Term as term
use Rattle.form_core.proofs.Depths.{instance_reach}
use Rattle.form_core.proofs.made.instantiate.Goals as goal

pub substitute-requires-clause-indices : goal.substitute-requires-clause-indices
substitute-requires-clause-indices c = instance_reach c.requires.0 c.requires.1 c.requires.2 (meaning c.args.body.now)
    (term.meaning c.args.t.now) c.args.variables c.requires.3 c.requires.4 c.requires.5 c.in_ok-binder_fits.ensures.fits
