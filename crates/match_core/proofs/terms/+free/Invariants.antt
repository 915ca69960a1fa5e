use Rattle.std.proofs.Common.{◌≡◌, drop}
use Rattle.std.specs.Prelude.{is_some}
use Rattle.match_theory.specs.Matching.{lower_terms}
use Rattle.term_core.specs.Term.{list_meaning}
use Rattle.match_core.proofs.terms.+free.Given as goal

abbrev pub invariant-are_free-loop-t : goal.invariant-are_free-loop-t
invariant-are_free-loop-t l =
    is_some (lower_terms l.binders (list_meaning (drop l.t-index l.ts))) ≡ is_some (lower_terms l.binders (list_meaning l.ts))
