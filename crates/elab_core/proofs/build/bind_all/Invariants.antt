use Rattle.std.proofs.Common.{◌≡◌, ◌≤◌, List, length, take, drop, map}
use Rattle.vern_parse.specs.Meaning.{group}
use Rattle.elab_theory.specs.Locals.{Local}
use Rattle.elab_core.specs.Scopes.{binders_onto}
use Rattle.elab_core.specs.Built.{under_all}
use Rattle.elab_core.proofs.build.bind_all.Given as goal

abbrev pub invariant-loop-g : goal.invariant-loop-g
invariant-loop-g l =
    ((c : List Local) → under_all (map group (drop l.g-index l.groups)) (binders_onto c l.binders.items)
    ≡ under_all (map group l.groups) (binders_onto c l.initial.binders.items))
    × (length l.initial.binders.items ≤ length l.binders.items)
    × (take (length l.initial.binders.items) l.binders.items ≡ l.initial.binders.items)
