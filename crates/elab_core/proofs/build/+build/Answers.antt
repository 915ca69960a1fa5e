use Rattle.std.proofs.Common.{arith, ap, ◌∙◌}
use Rattle.std.proofs.lemmas.Grind.{common_steps}
use Rattle.term_core.specs.Term.{list_meaning}
use Rattle.env_core.specs.Meaning.{declarations}
use Rattle.elab_core.specs.Scopes.{locals}
use Rattle.elab_core.proofs.Building.{list_built}
use Rattle.elab_core.proofs.build.+build.Goals as goal

pub build_arguments-returns : goal.build_arguments-returns
build_arguments-returns t c = ap list_meaning c.in_ok-from_vec.ensures
    ∙ list_built (declarations c.args.env.now) (locals c.args.context.now c.args.binders.now) c.args.ys.now _ c.loop-y.built.items
    (grind (arith, common_steps)) c.loop-y.invariant
