use Rattle.term_core.specs.Term.{meaning}
use Rattle.term_core.proofs.Layers.{slots_Empty}
use Rattle.env_core.specs.Meaning.{declarations}
use Rattle.kernel_trial.proofs.Closed.{closed, closed_fits}
use Rattle.kernel_trial.proofs.forms.is_closed.Goals as goal

pub returns : goal.returns
returns c = λ t.
    let E = declarations c.args.env.now in
    let u = meaning c.args.t.now in
    let h = closed E _ u c.args.sort.now slots_Empty (c.has_sort.ensures.0 t) in
    (h, closed_fits E c.environment.ensures u c.args.sort.now h)
