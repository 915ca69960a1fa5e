use Rattle.std.proofs.Common.{◌≡◌, length}
use Rattle.term_core.specs.Context.{slots}
use Rattle.env_core.specs.Meaning.{declarations}
use Rattle.elab_theory.specs.Locals.{known, locals_in}
use Rattle.elab_core.specs.Scopes.{past}
use Rattle.elab_core.proofs.scope.known_outside.Given as goal

abbrev pub decreases-loop-slot : goal.decreases-loop-slot
decreases-loop-slot l = length (slots l.at)

abbrev pub invariant-loop-slot : goal.invariant-loop-slot
invariant-loop-slot l = past l.variables (known (declarations l.env) (locals_in (slots l.at)) l.name)
    ≡ past l.inside (known (declarations l.env) (locals_in (slots l.context)) l.name)
