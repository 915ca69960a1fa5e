use Rattle.std.proofs.Common.{◌≤◌, drop}
use Rattle.fol_theory.specs.Measures.{terms_reach}
use Rattle.term_core.specs.Term.{list_meaning}
use Rattle.term_core.proofs.tests.+within.Given as goal

abbrev pub invariant-are_terms_within-loop-t : goal.invariant-are_terms_within-loop-t
invariant-are_terms_within-loop-t l = terms_reach (list_meaning (drop l.t-index l.ts)) ≤ l.bound → terms_reach (list_meaning l.ts) ≤ l.bound
