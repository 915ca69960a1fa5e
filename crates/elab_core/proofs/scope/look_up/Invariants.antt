use Rattle.std.proofs.Common.{◌≡◌, ◌+◌, length, take}
use Rattle.elab_theory.specs.Locals.{known}
use Rattle.env_core.specs.Meaning.{declarations}
use Rattle.elab_core.specs.Scopes.{locals, past}
use Rattle.elab_core.proofs.scope.look_up.Given as goal

abbrev pub decreases-binders : goal.decreases-binders
decreases-binders l = l.i

abbrev pub invariant-binders : goal.invariant-binders
invariant-binders l = (l.variables + l.i ≡ length l.binders)
    × (past l.variables (known (declarations l.env) (locals l.context (take l.i l.binders)) l.name)
    ≡ known (declarations l.env) (locals l.context l.binders) l.name)
