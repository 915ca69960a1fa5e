use Rattle.std.proofs.Common.{◌≡◌, ℕ, drop}
use Rattle.match_theory.specs.Places.{occurs_in_terms}
use Rattle.term_core.specs.Term.{list_meaning}
use Rattle.match_core.specs.Indices.{Stands}
use Rattle.match_core.proofs.occurrence.+stands.Given as goal

abbrev pub invariant-stands_in_terms-loop-t : goal.invariant-stands_in_terms-loop-t
invariant-stands_in_terms-loop-t l =
    (k : ℕ) → Stands l.index k → occurs_in_terms k (list_meaning (drop l.t-index l.ts)) ≡ occurs_in_terms k (list_meaning l.ts)
