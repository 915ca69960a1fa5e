-- What has no variable from a bound on is left as it is.
use Rattle.std.proofs.Common.{◌≡◌, ℕ, ◌+◌, ◌≤◌, refl, ap, ◌∙◌, arith}
use Rattle.std.proofs.lemmas.Bool.Decides.{nat_tests}
use Rattle.fol_theory.specs.Syntax.{Term, var, app, Terms, nil, cons, Formula, truth, falsity, pred, equal, both, either, implies, all, ex}
use Rattle.fol_theory.specs.Substitution.{replace_terms, raise, put, shift, shift_term, substitute, substitute_term}
use Rattle.fol_theory.specs.Measures.{term_reach, terms_reach, reach, range}
use Rattle.fol_theory.proofs.AtIndex.{shift_all, shift_ex, substitute_all, substitute_ex}

raise_below : (from by i : ℕ) → i + 1 ≤ from → raise from by i ≡ var i
raise_below from by i h = grind (arith, nat_tests)

put_below : (k : ℕ) (v : Term) (i : ℕ) → i + 1 ≤ k → put k v i ≡ var i
put_below k v i h = grind (arith, nat_tests)

mutual
  pub shift_within_term : (from by : ℕ) (t : Term) → term_reach t ≤ from → shift_term from by t ≡ t
  shift_within_term from by (var i) h = raise_below from by i h
  shift_within_term from by (app f ts) h = ap (app f) (shift_within_terms from by ts h)

  pub shift_within_terms : (from by : ℕ) (ts : Terms) → terms_reach ts ≤ from → replace_terms (raise from by) ts ≡ ts
  shift_within_terms from by nil h = refl
  shift_within_terms from by (cons t ts) h =
      λ i. cons (shift_within_term from by t (omega (arith, h)) i) (shift_within_terms from by ts (omega (arith, h)) i)

mutual
  pub substitute_within_term : (k : ℕ) (v t : Term) → term_reach t ≤ k → substitute_term k v t ≡ t
  substitute_within_term k v (var i) h = put_below k v i h
  substitute_within_term k v (app f ts) h = ap (app f) (substitute_within_terms k v ts h)

  pub substitute_within_terms : (k : ℕ) (v : Term) (ts : Terms) → terms_reach ts ≤ k → replace_terms (put k v) ts ≡ ts
  substitute_within_terms k v nil h = refl
  substitute_within_terms k v (cons t ts) h =
      λ i. cons (substitute_within_term k v t (omega (arith, h)) i) (substitute_within_terms k v ts (omega (arith, h)) i)

pub shift_within : (from by : ℕ) (a : Formula) → range a ≤ from → shift from by a ≡ a
shift_within from by truth h = refl
shift_within from by falsity h = refl
shift_within from by (pred p ts) h = ap (pred p) (shift_within_terms from by ts h)
shift_within from by (equal s t u) h =
    λ i. equal s (shift_within_term from by t (omega (arith, h)) i) (shift_within_term from by u (omega (arith, h)) i)
shift_within from by (both a b) h = λ i. both (shift_within from by a (omega (arith, h)) i) (shift_within from by b (omega (arith, h)) i)
shift_within from by (either a b) h =
    λ i. either (shift_within from by a (omega (arith, h)) i) (shift_within from by b (omega (arith, h)) i)
shift_within from by (implies a b) h =
    λ i. implies (shift_within from by a (omega (arith, h)) i) (shift_within from by b (omega (arith, h)) i)
shift_within from by (all s x a) h = shift_all from by s x a ∙ ap (all s x) (shift_within (from + 1) by a (omega (arith, h)))
shift_within from by (ex s x a) h = shift_ex from by s x a ∙ ap (ex s x) (shift_within (from + 1) by a (omega (arith, h)))

pub substitute_within : (k : ℕ) (v : Term) (a : Formula) → range a ≤ k → substitute k v a ≡ a
substitute_within k v truth h = refl
substitute_within k v falsity h = refl
substitute_within k v (pred p ts) h = ap (pred p) (substitute_within_terms k v ts h)
substitute_within k v (equal s t u) h =
    λ i. equal s (substitute_within_term k v t (omega (arith, h)) i) (substitute_within_term k v u (omega (arith, h)) i)
substitute_within k v (both a b) h =
    λ i. both (substitute_within k v a (omega (arith, h)) i) (substitute_within k v b (omega (arith, h)) i)
substitute_within k v (either a b) h =
    λ i. either (substitute_within k v a (omega (arith, h)) i) (substitute_within k v b (omega (arith, h)) i)
substitute_within k v (implies a b) h =
    λ i. implies (substitute_within k v a (omega (arith, h)) i) (substitute_within k v b (omega (arith, h)) i)
substitute_within k v (all s x a) h =
    substitute_all k v s x a ∙ ap (all s x) (substitute_within (k + 1) (shift_term 0 1 v) a (omega (arith, h)))
substitute_within k v (ex s x a) h =
    substitute_ex k v s x a ∙ ap (ex s x) (substitute_within (k + 1) (shift_term 0 1 v) a (omega (arith, h)))

-- no more variables than the greatest index tells
pub range_reach : (a : Formula) → range a ≤ reach a
range_reach truth = omega arith
range_reach falsity = omega arith
range_reach (pred p ts) = omega arith
range_reach (equal s t u) = omega arith
range_reach (both a b) = omega (arith, range_reach a, range_reach b)
range_reach (either a b) = omega (arith, range_reach a, range_reach b)
range_reach (implies a b) = omega (arith, range_reach a, range_reach b)
range_reach (all s x a) = omega (arith, range_reach a)
range_reach (ex s x a) = omega (arith, range_reach a)
