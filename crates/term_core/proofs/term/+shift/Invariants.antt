use Rattle.std.proofs.Common.{◌≡◌, ◌≤◌, ◌^◌, take, drop, map}
use Rattle.fol_theory.specs.Substitution.{replace_term, replace_terms, raise}
use Rattle.fol_theory.specs.Measures.{terms_reach}
use Rattle.term_core.specs.Term.{meaning, list_meaning, each_outcome}
use Rattle.term_core.proofs.term.+shift.Given as goal

abbrev pub invariant-shifted_all-loop-i : goal.invariant-shifted_all-loop-i
invariant-shifted_all-loop-i l =
    (each_outcome l.list (take l.i l.ts) ≡ map (replace_term (raise l.from l.by)) (map meaning (take l.i l.ts)))
    × (terms_reach (replace_terms (raise l.from l.by) (list_meaning (drop l.i l.ts))) ≤ 2 ^ 64)
