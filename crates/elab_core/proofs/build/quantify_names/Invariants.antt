use Rattle.std.proofs.Common.{◌≡◌, ◌≤◌, length, take, map}
use Rattle.term_core.specs.Formula.{meaning}
use Rattle.vern_parse.specs.Meaning.{name}
use Rattle.elab_theory.specs.Expressions.{over_names}
use Rattle.elab_core.proofs.build.quantify_names.Given as goal

abbrev pub decreases-names : goal.decreases-names
decreases-names l = l.i

abbrev pub invariant-names : goal.invariant-names
invariant-names l = (l.i ≤ length l.names) × (over_names l.all l.sort.text (map name (take l.i l.names)) (meaning l.body)
    ≡ over_names l.all l.sort.text (map name l.names) (meaning l.initial.body))
