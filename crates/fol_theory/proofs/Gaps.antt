-- A shift or a substitution inside the gap that a shift has made.
use Rattle.std.proofs.Common.{◌≡◌, ℕ, ◌+◌, ◌≤◌, ap, ◌∙◌, arith}
use Rattle.std.proofs.lemmas.Bool.Decides.{nat_tests}
use Rattle.std.proofs.Math.Path.{fun_ext}
use Rattle.fol_theory.specs.Syntax.{Term, Formula}
use Rattle.fol_theory.specs.Substitution.{replace_term, replace, raise, put, shift, shift_term, substitute, substitute_term}
use Rattle.fol_theory.proofs.Laws.{term_twice, replace_twice}

shift_inside_at : (k n from by i : ℕ) → from ≤ k → k ≤ from + by → replace_term (raise k n) (raise from by i) ≡ raise from (by + n) i
shift_inside_at k n from by i low high = grind (arith, nat_tests)

-- a shift inside the gap widens it
pub shift_inside : (k n from by : ℕ) (a : Formula) → from ≤ k → k ≤ from + by → shift k n (shift from by a) ≡ shift from (by + n) a
shift_inside k n from by a low high =
    replace_twice _ _ a ∙ ap (λ ρ. replace ρ a) (fun_ext (λ i. shift_inside_at k n from by i low high))

pub shift_inside_term : (k n from by : ℕ) (t : Term) → from ≤ k → k ≤ from + by
    → shift_term k n (shift_term from by t) ≡ shift_term from (by + n) t
shift_inside_term k n from by t low high =
    term_twice _ _ t ∙ ap (λ ρ. replace_term ρ t) (fun_ext (λ i. shift_inside_at k n from by i low high))

substitute_inside_at : (k from by : ℕ) (v : Term) (i : ℕ) → from ≤ k → k ≤ from + by
    → replace_term (put k v) (raise from (by + 1) i) ≡ raise from by i
substitute_inside_at k from by v i low high = grind (arith, nat_tests)

-- a substitution inside the gap narrows it by one, and its value isn't put in
pub substitute_inside : (k from by : ℕ) (v : Term) (a : Formula) → from ≤ k → k ≤ from + by
    → substitute k v (shift from (by + 1) a) ≡ shift from by a
substitute_inside k from by v a low high =
    replace_twice _ _ a ∙ ap (λ ρ. replace ρ a) (fun_ext (λ i. substitute_inside_at k from by v i low high))

pub substitute_inside_term : (k from by : ℕ) (v t : Term) → from ≤ k → k ≤ from + by
    → substitute_term k v (shift_term from (by + 1) t) ≡ shift_term from by t
substitute_inside_term k from by v t low high =
    term_twice _ _ t ∙ ap (λ ρ. replace_term ρ t) (fun_ext (λ i. substitute_inside_at k from by v i low high))
