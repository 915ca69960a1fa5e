use Rattle.std.proofs.Common.{◌≡◌, ◌≤◌, length, take, drop, map}
use Rattle.vern_parse.specs.Meaning.{group}
use Rattle.env_core.specs.Meaning.{declarations}
use Rattle.elab_theory.specs.Expressions.{under_groups}
use Rattle.elab_core.specs.Scopes.{locals}
use Rattle.elab_core.proofs.check.bind_groups.Given as goal

abbrev pub invariant-loop-g : goal.invariant-loop-g
invariant-loop-g l =
    (under_groups (declarations l.env) (map group (drop l.g-index l.groups)) (locals l.context l.binders.items)
    ≡ under_groups (declarations l.env) (map group l.groups) (locals l.context l.initial.binders.items))
    × (length l.initial.binders.items ≤ length l.binders.items)
    × (take (length l.initial.binders.items) l.binders.items ≡ l.initial.binders.items)
