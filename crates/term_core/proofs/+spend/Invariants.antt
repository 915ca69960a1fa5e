use Rattle.std.proofs.Common.{◌≡◌, ◌+◌, drop}
use Rattle.fol_theory.specs.Measures.{terms_nodes}
use Rattle.term_core.specs.Term.{list_meaning}
use Rattle.term_core.proofs.+spend.Given as goal

abbrev pub invariant-spend::spend_all-loop-t : goal.invariant-spend::spend_all-loop-t
invariant-spend::spend_all-loop-t l =
    l.rest + terms_nodes (list_meaning l.ts) ≡ l.left + terms_nodes (list_meaning (drop l.t-index l.ts))
