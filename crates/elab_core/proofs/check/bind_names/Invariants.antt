use Rattle.std.proofs.Common.{◌≡◌, ◌≤◌, List, length, take, drop, map}
use Rattle.vern_parse.specs.Meaning.{name}
use Rattle.elab_theory.specs.Locals.{Local}
use Rattle.elab_theory.specs.Expressions.{under_names}
use Rattle.elab_core.specs.Scopes.{binders_onto}
use Rattle.elab_core.proofs.check.bind_names.Given as goal

abbrev pub invariant-loop-x : goal.invariant-loop-x
invariant-loop-x l =
    ((c : List Local) → under_names l.sort (map name (drop l.x-index l.names)) (binders_onto c l.binders.items)
    ≡ under_names l.sort (map name l.names) (binders_onto c l.initial.binders.items))
    × (length l.initial.binders.items ≤ length l.binders.items)
    × (take (length l.initial.binders.items) l.binders.items ≡ l.initial.binders.items)
