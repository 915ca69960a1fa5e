use Rattle.std.proofs.Common.{◌↔◌, ◌≤◌, ◌+◌, drop}
use Rattle.fol_theory.specs.Measures.{terms_reach}
use Rattle.term_core.specs.Term.{list_meaning}
use Rattle.match_core.proofs.terms.+within.Given as goal

abbrev pub invariant-are_within-loop-t : goal.invariant-are_within-loop-t
invariant-are_within-loop-t l =
    (terms_reach (list_meaning (drop l.t-index l.ts)) ≤ l.last + 1) ↔ (terms_reach (list_meaning l.ts) ≤ l.last + 1)
