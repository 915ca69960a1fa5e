use Rattle.std.proofs.Common.{◌≡◌, ◌≤◌, ◌^◌, min, max, drop}
use Rattle.fol_theory.specs.Measures.{terms_height}
use Rattle.term_core.specs.Term.{list_meaning}
use Rattle.term_core.proofs.term.+height.Given as goal

abbrev pub invariant-height_of_all-loop-t : goal.invariant-height_of_all-loop-t
invariant-height_of_all-loop-t l =
    (l.height ≤ 2 ^ 32)
    × (min (max l.height (terms_height (list_meaning (drop l.t-index l.ts)))) (2 ^ 32) ≡ min (terms_height (list_meaning l.ts)) (2 ^ 32))
