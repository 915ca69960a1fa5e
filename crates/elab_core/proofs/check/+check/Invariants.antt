use Rattle.std.proofs.Common.{◌≡◌, length, drop, map}
use Rattle.vern_grammar.specs.Trees.{expressions}
use Rattle.vern_parse.specs.Meaning.{expression}
use Rattle.env_core.specs.Meaning.{declarations}
use Rattle.env_core.specs.Sorts.{sorts_as}
use Rattle.elab_core.specs.Scopes.{locals}
use Rattle.elab_core.specs.Checked.{arguments_fit}
use Rattle.elab_core.proofs.check.+check.Given as goal

abbrev pub invariant-check_arguments-loop-i : goal.invariant-check_arguments-loop-i
invariant-check_arguments-loop-i l = (length l.ys ≡ length (sorts_as l.sorts))
    × (arguments_fit (declarations l.env) (locals l.context l.binders) (expressions (map expression (drop l.i l.ys))) (drop l.i
    (sorts_as l.sorts)) ≡ arguments_fit (declarations l.env) (locals l.context l.binders) (expressions (map expression l.ys))
    (sorts_as l.sorts))
