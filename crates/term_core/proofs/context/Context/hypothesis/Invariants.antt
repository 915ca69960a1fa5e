use Rattle.std.proofs.Common.{◌≡◌, ◌<◌}
use Rattle.fol_theory.specs.Contexts.{count}
use Rattle.fol_theory.specs.Slots.{entries}
use Rattle.term_core.specs.Context.{slots}
use Rattle.term_core.proofs.Hypotheses.{IsBehind}
use Rattle.term_core.proofs.context.Context.hypothesis.Given as goal

abbrev pub invariant-loop-at : goal.invariant-loop-at
invariant-loop-at l =
    (l.left ≡ count (entries (slots l.at))) × (l.number < l.left)
    × IsBehind (entries (slots l.at)) (entries (slots l.self)) l.newer
