use Rattle.std.proofs.Common.{◌≡◌, true}
use Rattle.match_theory.specs.Places.{all_below, occurs}
use Rattle.term_core.specs.Formula.{meaning}
use Rattle.tac_core.proofs.apply.all_below.Given as goal

abbrev pub invariant-loop-i : goal.invariant-loop-i
invariant-loop-i l = all_below l.i (λ i. occurs i (meaning l.a)) ≡ true
