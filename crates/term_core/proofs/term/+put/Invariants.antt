use Rattle.std.proofs.Common.{◌≡◌, ◌<◌, ◌≤◌, ◌^◌, take, drop, map}
use Rattle.fol_theory.specs.Substitution.{replace_term, replace_terms, put, shift_term}
use Rattle.fol_theory.specs.Measures.{terms_reach}
use Rattle.term_core.specs.Term.{meaning, list_meaning, each_outcome}
use Rattle.term_core.proofs.term.+put.Given as goal

abbrev pub invariant-put_all-loop-i : goal.invariant-put_all-loop-i
invariant-put_all-loop-i l =
    let σ = put l.index (shift_term 0 l.binders (meaning l.value)) in
    (each_outcome l.list (take l.i l.ts) ≡ map (replace_term σ) (map meaning (take l.i l.ts)))
    × (0 < l.binders → terms_reach (replace_terms σ (list_meaning (drop l.i l.ts))) ≤ 2 ^ 64)
