use Rattle.std.proofs.Common.{◌≡◌, true}
use Rattle.match_theory.specs.Places.{all_below, occurs_in_term}
use Rattle.term_core.specs.Term.{meaning}
use Rattle.tac_eq.proofs.rewrite.all_below.Given as goal

abbrev pub invariant-loop-i : goal.invariant-loop-i
invariant-loop-i l = all_below l.i (λ i. occurs_in_term i (meaning l.t)) ≡ true
