use Rattle.std.proofs.Common.{◌≡◌, drop, length}
use Rattle.match_theory.specs.Matching.{blank}
use Rattle.match_theory.specs.Places.{first_instance, terms_places}
use Rattle.term_core.specs.Term.{meaning, list_meaning}
use Rattle.match_core.specs.Tables.{table}
use Rattle.match_core.proofs.places.+find_term.Given as goal

abbrev pub invariant-find_in_terms-loop-t : goal.invariant-find_in_terms-loop-t
invariant-find_in_terms-loop-t l =
    let n = length l.initial.found in
    (table l.found ≡ blank n)
    × (first_instance n (meaning l.pattern) (terms_places l.binders (list_meaning (drop l.t-index l.ts)))
    ≡ first_instance n (meaning l.pattern) (terms_places l.binders (list_meaning l.ts)))
