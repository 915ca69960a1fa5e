use Rattle.std.proofs.Common.{◌≡◌, ◌≤◌, length, take, map}
use Rattle.term_core.specs.Formula.{meaning}
use Rattle.vern_parse.specs.Meaning.{group}
use Rattle.elab_theory.specs.Expressions.{over_groups}
use Rattle.elab_core.proofs.build.quantify.Given as goal

abbrev pub decreases-groups : goal.decreases-groups
decreases-groups l = l.i

abbrev pub invariant-groups : goal.invariant-groups
invariant-groups l = (l.i ≤ length l.groups) × (over_groups l.all (map group (take l.i l.groups)) (meaning l.body)
    ≡ over_groups l.all (map group l.groups) (meaning l.initial.body))
