use Rattle.std.proofs.Common.{◌≡◌, take, map}
use Rattle.term_core.specs.Term.{meaning}
use Rattle.vern_parse.specs.Meaning.{expression}
use Rattle.env_core.specs.Meaning.{declarations}
use Rattle.elab_core.specs.Scopes.{locals}
use Rattle.elab_core.specs.Built.{term_built}
use Rattle.elab_core.proofs.build.+build.Given as goal

abbrev pub invariant-build_arguments-loop-y : goal.invariant-build_arguments-loop-y
invariant-build_arguments-loop-y l = map meaning l.built.items
    ≡ map (λ y. term_built (declarations l.env) (locals l.context l.binders) (expression y)) (take l.y-index l.ys)
