-- Indices of what is shifted and substituted, and when none passes a limit.
use Rattle.std.proofs.Common.{◌≡◌, ℕ, ◌+◌, ◌<◌, ◌≤◌, max, sym, subst, arith, ◌⊎◌, inl, inr}
use Rattle.std.proofs.lemmas.Bool.Decides.{nat_tests}
use Rattle.fol_theory.specs.Syntax.{Term, var, app, Terms, nil, cons, Formula, truth, falsity, pred, equal, both, either, implies, all, ex}
use Rattle.fol_theory.specs.Substitution.{replace_terms, raise, put, shift, shift_term, substitute, substitute_term}
use Rattle.fol_theory.specs.Measures.{term_reach, terms_reach, reach, depth, height}
use Rattle.fol_theory.proofs.AtIndex.{sides, put_small, put_here, put_large, shift_all, shift_ex, substitute_all, substitute_ex}
use Rattle.fol_theory.proofs.Sizes.{depth_below}

raise_reach : (from by i : ℕ) → term_reach (raise from by i) ≤ i + 1 + by
raise_reach from by i = grind (arith, nat_tests)

mutual
  pub shift_term_reach : (from by : ℕ) (t : Term) → term_reach (shift_term from by t) ≤ term_reach t + by
  shift_term_reach from by (var i) = raise_reach from by i
  shift_term_reach from by (app f ts) = shift_terms_reach from by ts

  pub shift_terms_reach : (from by : ℕ) (ts : Terms) → terms_reach (replace_terms (raise from by) ts) ≤ terms_reach ts + by
  shift_terms_reach from by nil = omega arith
  shift_terms_reach from by (cons t ts) = omega (arith, shift_term_reach from by t, shift_terms_reach from by ts)

pub shift_reach : (from by : ℕ) (a : Formula) → reach (shift from by a) ≤ reach a + by
shift_reach from by truth = omega arith
shift_reach from by falsity = omega arith
shift_reach from by (pred p ts) = shift_terms_reach from by ts
shift_reach from by (equal s t u) = omega (arith, shift_term_reach from by t, shift_term_reach from by u)
shift_reach from by (both a b) = omega (arith, shift_reach from by a, shift_reach from by b)
shift_reach from by (either a b) = omega (arith, shift_reach from by a, shift_reach from by b)
shift_reach from by (implies a b) = omega (arith, shift_reach from by a, shift_reach from by b)
shift_reach from by (all s x a) = subst (λ z. reach z ≤ reach a + by) (sym (shift_all from by s x a)) (shift_reach (from + 1) by a)
shift_reach from by (ex s x a) = subst (λ z. reach z ≤ reach a + by) (sym (shift_ex from by s x a)) (shift_reach (from + 1) by a)

put_reach : (k : ℕ) (v : Term) (i : ℕ) → term_reach (put k v i) ≤ max (i + 1) (term_reach v)
put_reach k v i = go (sides i k)
  where
    go : (i < k) ⊎ ((i ≡ k) ⊎ (k < i)) → term_reach (put k v i) ≤ max (i + 1) (term_reach v)
    go (inl h) = subst (λ t. term_reach t ≤ max (i + 1) (term_reach v)) (sym (put_small k v i h)) (omega arith)
    go (inr (inl h)) = subst (λ t. term_reach t ≤ max (i + 1) (term_reach v)) (sym (put_here k v i h)) (omega arith)
    go (inr (inr h)) = subst (λ t. term_reach t ≤ max (i + 1) (term_reach v)) (sym (put_large k v i h)) (omega arith)

mutual
  pub substitute_term_reach : (k : ℕ) (v t : Term) → term_reach (substitute_term k v t) ≤ max (term_reach t) (term_reach v)
  substitute_term_reach k v (var i) = put_reach k v i
  substitute_term_reach k v (app f ts) = substitute_terms_reach k v ts

  pub substitute_terms_reach : (k : ℕ) (v : Term) (ts : Terms)
      → terms_reach (replace_terms (put k v) ts) ≤ max (terms_reach ts) (term_reach v)
  substitute_terms_reach k v nil = omega arith
  substitute_terms_reach k v (cons t ts) = omega (arith, substitute_term_reach k v t, substitute_terms_reach k v ts)

pub substitute_reach : (k : ℕ) (v : Term) (a : Formula) → reach (substitute k v a) ≤ max (reach a) (term_reach v + depth a)
substitute_reach k v truth = omega arith
substitute_reach k v falsity = omega arith
substitute_reach k v (pred p ts) = omega (arith, substitute_terms_reach k v ts)
substitute_reach k v (equal s t u) = omega (arith, substitute_term_reach k v t, substitute_term_reach k v u)
substitute_reach k v (both a b) = omega (arith, substitute_reach k v a, substitute_reach k v b)
substitute_reach k v (either a b) = omega (arith, substitute_reach k v a, substitute_reach k v b)
substitute_reach k v (implies a b) = omega (arith, substitute_reach k v a, substitute_reach k v b)
substitute_reach k v (all s x a) =
    subst (λ z. reach z ≤ max (reach a) (term_reach v + (depth a + 1))) (sym (substitute_all k v s x a))
    (omega (arith, substitute_reach (k + 1) (shift_term 0 1 v) a, shift_term_reach 0 1 v))
substitute_reach k v (ex s x a) =
    subst (λ z. reach z ≤ max (reach a) (term_reach v + (depth a + 1))) (sym (substitute_ex k v s x a))
    (omega (arith, substitute_reach (k + 1) (shift_term 0 1 v) a, shift_term_reach 0 1 v))

-- ---- no index passes the limit, by height and greatest index

pub index_fits : (limit k : ℕ) (a : Formula) → k + height a ≤ limit → k + depth a < limit
index_fits limit k a h = omega (arith, h, depth_below a)

pub shift_fits : (limit from by : ℕ) (a : Formula) → reach a + by ≤ limit → reach (shift from by a) ≤ limit
shift_fits limit from by a h = omega (arith, h, shift_reach from by a)

pub shift_term_fits : (limit from by : ℕ) (t : Term) → term_reach t + by ≤ limit → term_reach (shift_term from by t) ≤ limit
shift_term_fits limit from by t h = omega (arith, h, shift_term_reach from by t)

pub substitute_fits : (limit k : ℕ) (v : Term) (a : Formula) → reach a ≤ limit → term_reach v + height a ≤ limit
    → reach (substitute k v a) ≤ limit
substitute_fits limit k v a h g = omega (arith, h, g, substitute_reach k v a, depth_below a)

pub substitute_term_fits : (limit k : ℕ) (v t : Term) → term_reach t ≤ limit → term_reach v ≤ limit
    → term_reach (substitute_term k v t) ≤ limit
substitute_term_fits limit k v t h g = omega (arith, h, g, substitute_term_reach k v t)
