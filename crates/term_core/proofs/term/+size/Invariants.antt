use Rattle.std.proofs.Common.{◌≡◌, ◌+◌, ◌≤◌, ◌^◌, min, drop}
use Rattle.fol_theory.specs.Measures.{terms_nodes}
use Rattle.term_core.specs.Term.{list_meaning}
use Rattle.term_core.proofs.term.+size.Given as goal

abbrev pub invariant-size_of_all-loop-t : goal.invariant-size_of_all-loop-t
invariant-size_of_all-loop-t l =
    (l.size ≤ 2 ^ 32)
    × (min (l.size + terms_nodes (list_meaning (drop l.t-index l.ts))) (2 ^ 32) ≡ min (terms_nodes (list_meaning l.ts)) (2 ^ 32))
