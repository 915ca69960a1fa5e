use Rattle.std.proofs.Common.{◌≡◌, ◌+◌, drop, length}
use Rattle.match_theory.specs.Matching.{match_terms}
use Rattle.term_core.specs.Term.{list_meaning}
use Rattle.match_core.specs.Tables.{table}
use Rattle.match_core.proofs.Patterns.{raised}
use Rattle.match_core.proofs.matching.+match_term.Given as goal

abbrev pub invariant-match_terms-loop-i : goal.invariant-match_terms-loop-i
invariant-match_terms-loop-i l =
    let n = length l.initial.found in
    let k = l.binders + l.further in
    (length l.patterns ≡ length l.targets)
    × (match_terms n k (raised n l.binders l.further (drop l.i l.patterns)) (list_meaning (drop l.i l.targets)) (table l.found)
    ≡ match_terms n k (raised n l.binders l.further l.patterns) (list_meaning l.targets) (table l.initial.found))
