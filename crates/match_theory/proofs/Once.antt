-- The terms of the variables that occur in a pattern are determined.
use Rattle.std.proofs.Common.{◌≡◌, ◌≤◌, ℕ, suc, ◌-◌, List, Some, sym, ap, subst, ◌∙◌, arith, inl, inr}
use Rattle.fol_theory.specs.Syntax.{Term, var, app, Terms, nil, cons, Formula, truth, falsity, pred, equal, both, either, implies, all, ex}
use Rattle.fol_theory.specs.Substitution.{replace_term, replace_terms, replace, shift_term}
use Rattle.fol_theory.specs.Printing.{unnamed}
use Rattle.match_theory.specs.Instances.{fill, IsInstance, IsTermInstance, OccursInTerm, OccursInTerms, Occurs}
use Rattle.match_theory.specs.Matching.{lower}
use Rattle.match_theory.proofs.Equal.{lower_shifted}
use Rattle.match_theory.proofs.Solved.{
  lifts,
  lifts_large,
  app_parts,
  cons_parts,
  pred_parts,
  equal_parts,
  both_parts,
  either_parts,
  implies_parts,
  all_parts,
  ex_parts,
}

shift_injective : (b : ℕ) (t u : Term) → shift_term 0 b t ≡ shift_term 0 b u → t ≡ u
shift_injective b t u e = some_is (sym (lower_shifted b t) ∙ ap (lower b) e ∙ lower_shifted b u)
  where
    some_is : Some t ≡ Some u → t ≡ u
    some_is h = cc

mutual
  pub once_term : (b k : ℕ) (σ τ : ℕ → Term) (t : Term) → b ≤ k → replace_term (lifts b σ) t ≡ replace_term (lifts b τ) t →
      OccursInTerm k t → σ (k - b) ≡ τ (k - b)
  once_term b k σ τ (var j) h e o =
      let f : lifts b σ k ≡ lifts b τ k = subst (λ i. lifts b σ i ≡ lifts b τ i) (sym o) e in
      shift_injective b (σ (k - b)) (τ (k - b)) (sym (lifts_large b σ k h) ∙ f ∙ lifts_large b τ k h)
  once_term b k σ τ (app f ts) h e o = once_terms b k σ τ ts h (app_parts f f (replace_terms (lifts b σ) ts)
      (replace_terms (lifts b τ) ts) e).1 o

  pub once_terms : (b k : ℕ) (σ τ : ℕ → Term) (ts : Terms) → b ≤ k → replace_terms (lifts b σ) ts ≡ replace_terms (lifts b τ) ts
      → OccursInTerms k ts → σ (k - b) ≡ τ (k - b)
  once_terms b k σ τ nil h e o = absurd o
  once_terms b k σ τ (cons t ts) h e (inl o) = once_term b k σ τ t h (cons_parts (replace_term (lifts b σ) t)
      (replace_term (lifts b τ) t) (replace_terms (lifts b σ) ts) (replace_terms (lifts b τ) ts) e).0 o
  once_terms b k σ τ (cons t ts) h e (inr o) = once_terms b k σ τ ts h (cons_parts (replace_term (lifts b σ) t)
      (replace_term (lifts b τ) t) (replace_terms (lifts b σ) ts) (replace_terms (lifts b τ) ts) e).1 o

pub once : (b k : ℕ) (σ τ : ℕ → Term) (a : Formula) → b ≤ k → unnamed (replace (lifts b σ) a) ≡ unnamed (replace (lifts b τ) a)
    → Occurs k a → σ (k - b) ≡ τ (k - b)
once b k σ τ truth h e o = absurd o
once b k σ τ falsity h e o = absurd o
once b k σ τ (pred p ts) h e o = once_terms b k σ τ ts h (pred_parts p p (replace_terms (lifts b σ) ts)
    (replace_terms (lifts b τ) ts) e).1 o
once b k σ τ (equal s t u) h e (inl o) = once_term b k σ τ t h (equal_parts s s (replace_term (lifts b σ) t)
    (replace_term (lifts b σ) u) (replace_term (lifts b τ) t) (replace_term (lifts b τ) u) e).1.0 o
once b k σ τ (equal s t u) h e (inr o) = once_term b k σ τ u h (equal_parts s s (replace_term (lifts b σ) t)
    (replace_term (lifts b σ) u) (replace_term (lifts b τ) t) (replace_term (lifts b τ) u) e).1.1 o
once b k σ τ (both a c) h e (inl o) = once b k σ τ a h (both_parts (unnamed (replace (lifts b σ) a))
    (unnamed (replace (lifts b σ) c)) (unnamed (replace (lifts b τ) a)) (unnamed (replace (lifts b τ) c)) e).0 o
once b k σ τ (both a c) h e (inr o) = once b k σ τ c h (both_parts (unnamed (replace (lifts b σ) a))
    (unnamed (replace (lifts b σ) c)) (unnamed (replace (lifts b τ) a)) (unnamed (replace (lifts b τ) c)) e).1 o
once b k σ τ (either a c) h e (inl o) = once b k σ τ a h (either_parts (unnamed (replace (lifts b σ) a))
    (unnamed (replace (lifts b σ) c)) (unnamed (replace (lifts b τ) a)) (unnamed (replace (lifts b τ) c)) e).0 o
once b k σ τ (either a c) h e (inr o) = once b k σ τ c h (either_parts (unnamed (replace (lifts b σ) a))
    (unnamed (replace (lifts b σ) c)) (unnamed (replace (lifts b τ) a)) (unnamed (replace (lifts b τ) c)) e).1 o
once b k σ τ (implies a c) h e (inl o) = once b k σ τ a h (implies_parts (unnamed (replace (lifts b σ) a))
    (unnamed (replace (lifts b σ) c)) (unnamed (replace (lifts b τ) a)) (unnamed (replace (lifts b τ) c)) e).0 o
once b k σ τ (implies a c) h e (inr o) = once b k σ τ c h (implies_parts (unnamed (replace (lifts b σ) a))
    (unnamed (replace (lifts b σ) c)) (unnamed (replace (lifts b τ) a)) (unnamed (replace (lifts b τ) c)) e).1 o
once b k σ τ (all s x a) h e o = subst (λ i. σ i ≡ τ i) (less k b) (once (suc b) (suc k) σ τ a (omega (arith, h))
    (all_parts s s (unnamed (replace (lifts (suc b) σ) a)) (unnamed (replace (lifts (suc b) τ) a)) e).1 o)
  where
    less : (k b : ℕ) → suc k - suc b ≡ k - b
    less k b = omega arith
once b k σ τ (ex s x a) h e o = subst (λ i. σ i ≡ τ i) (less k b) (once (suc b) (suc k) σ τ a (omega (arith, h))
    (ex_parts s s (unnamed (replace (lifts (suc b) σ) a)) (unnamed (replace (lifts (suc b) τ) a)) e).1 o)
  where
    less : (k b : ℕ) → suc k - suc b ≡ k - b
    less k b = omega arith

module _ (n : ℕ) where
  -- two instances have the same terms at the variables that occur
  pub instance_once : (pattern target : Formula) (ts us : List Term) → IsInstance n pattern target ts →
      IsInstance n pattern target us → (i : ℕ) → Occurs i pattern → fill ts i ≡ fill us i
  instance_once a c ts us p q i o = subst (λ j. fill ts j ≡ fill us j) (less i) (once 0 i (fill ts) (fill us) a (omega arith)
      (p.1 ∙ sym q.1) o)
    where
      less : (i : ℕ) → i - 0 ≡ i
      less i = omega arith

  pub term_instance_once : (pattern target : Term) (ts us : List Term) → IsTermInstance n pattern target ts →
      IsTermInstance n pattern target us → (i : ℕ) → OccursInTerm i pattern → fill ts i ≡ fill us i
  term_instance_once t u ts us p q i o = subst (λ j. fill ts j ≡ fill us j) (less i) (once_term 0 i (fill ts) (fill us) t
      (omega arith) (p.1 ∙ sym q.1) o)
    where
      less : (i : ℕ) → i - 0 ≡ i
      less i = omega arith
