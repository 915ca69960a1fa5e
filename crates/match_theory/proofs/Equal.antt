-- Equality of terms decided, and terms without their newest variables.
use Rattle.std.proofs.Common.{
  ◌≡◌,
  ◌≤◌,
  ℕ,
  ◌+◌,
  ◌-◌,
  Bool,
  true,
  false,
  ◌&&◌,
  if◌then◌else◌,
  nat_lt,
  List,
  Option,
  Some,
  None,
  Decides,
  refl,
  sym,
  ap,
  ◌∙◌,
  arith,
}
use Rattle.std.specs.Cmp.Lexicographic.{bytes_decides}
use Rattle.std.proofs.lemmas.Bool.Decides.{nat_tests, Decides-eqb}
use Rattle.fol_theory.specs.Syntax.{Term, var, app, Terms, nil, cons, is_name}
use Rattle.fol_theory.specs.Substitution.{replace_term, replace_terms, raise, shift_term}
use Rattle.fol_theory.proofs.AtIndex.{raise_large}
use Rattle.match_theory.specs.Matching.{and_then, same_term, same_terms, lower, lower_terms}

both_true : (a b : Bool) → (a && b) ≡ true → (a ≡ true) × (b ≡ true)
both_true true b e = (refl, e)
both_true false b e = absurd cc

and_of : (a b : Bool) → a ≡ true → b ≡ true → (a && b) ≡ true
and_of true b p q = q
and_of false b p q = absurd cc

pub app_decides : (f g : List ℕ) (ts us : Terms) → Decides (is_name f g) (f ≡ g) → Decides (same_terms ts us) (ts ≡ us) →
    Decides (is_name f g && same_terms ts us) (app f ts ≡ app g us)
app_decides f g ts us d e = (
  λ h. let k = both_true (is_name f g) (same_terms ts us) h in (λ i. app (d.0 k.0 i) (e.0 k.1 i)),
  λ h. and_of (is_name f g) (same_terms ts us) (d.1 cc) (e.1 cc),
)

pub cons_decides : (t u : Term) (ts us : Terms) → Decides (same_term t u) (t ≡ u) → Decides (same_terms ts us) (ts ≡ us) →
    Decides (same_term t u && same_terms ts us) (cons t ts ≡ cons u us)
cons_decides t u ts us d e = (
  λ h. let k = both_true (same_term t u) (same_terms ts us) h in
      (λ i. cons (d.0 k.0 i) (e.0 k.1 i)),
  λ h. and_of (same_term t u) (same_terms ts us) (d.1 cc) (e.1 cc),
)

mutual
  pub term_decides : (t u : Term) → Decides (same_term t u) (t ≡ u)
  term_decides (var i) (var j) = (λ e. ap var ((Decides-eqb i j).0 e), λ e. (Decides-eqb i j).1 cc)
  term_decides (var i) (app g us) = (λ e. absurd cc, λ e. absurd cc)
  term_decides (app f ts) (var j) = (λ e. absurd cc, λ e. absurd cc)
  term_decides (app f ts) (app g us) = app_decides f g ts us (bytes_decides f g) (terms_decides ts us)

  pub terms_decides : (ts us : Terms) → Decides (same_terms ts us) (ts ≡ us)
  terms_decides nil nil = (λ e. refl, λ e. refl)
  terms_decides (cons t ts) (cons u us) = cons_decides t u ts us (term_decides t u) (terms_decides ts us)
  terms_decides nil (cons u us) = (λ e. absurd cc, λ e. absurd cc)
  terms_decides (cons t ts) nil = (λ e. absurd cc, λ e. absurd cc)

-- ---- a term without its newest variables is one that is shifted by them

some_injective : {A : Type 0} (x y : A) → Some x ≡ Some y → x ≡ y
some_injective x y e = cc

lower_var : (by i : ℕ) (t : Term) → lower by (var i) ≡ Some t → replace_term (raise 0 by) t ≡ var i
lower_var by i t e = go (nat_lt i by) refl e
  where
    go : (r : Bool) → nat_lt i by ≡ r → (if r then None else Some (var (i - by))) ≡ Some t → replace_term (raise 0 by) t ≡ var i
    go true p q = absurd cc
    go false p q = ap (replace_term (raise 0 by)) (sym (some_injective (var (i - by)) t q)) ∙
        raise_large 0 by (i - by) (omega arith) ∙ ap var (back by i (grind (arith, nat_tests)))
      where
        back : (by i : ℕ) → by ≤ i → i - by + by ≡ i
        back by i h = omega arith

lower_shifted_var : (by i : ℕ) → lower by (raise 0 by i) ≡ Some (var i)
lower_shifted_var by i = ap (lower by) (raise_large 0 by i (omega arith)) ∙ at (nat_lt (i + by) by) refl
  where
    at : (r : Bool) → nat_lt (i + by) by ≡ r → (if r then None else Some (var (i + by - by))) ≡ Some (var i)
    at true p = absurd (grind (arith, nat_tests))
    at false p = ap (λ j. Some (var j)) (omega arith)

mutual
  pub lower_is : (by : ℕ) (u t : Term) → lower by u ≡ Some t → shift_term 0 by t ≡ u
  lower_is by (var i) t e = lower_var by i t e
  lower_is by (app f us) t e = go (lower_terms by us) (lower_terms_are by us) e
    where
      go : (o : Option Terms) → ((ts : Terms) → o ≡ Some ts → replace_terms (raise 0 by) ts ≡ us) →
          and_then o (λ ts. Some (app f ts)) ≡ Some t → replace_term (raise 0 by) t ≡ app f us
      go None h q = absurd cc
      go (Some ts) h q = ap (replace_term (raise 0 by)) (sym (some_injective (app f ts) t q)) ∙ ap (app f) (h ts refl)

  pub lower_terms_are : (by : ℕ) (us ts : Terms) → lower_terms by us ≡ Some ts → replace_terms (raise 0 by) ts ≡ us
  lower_terms_are by nil ts e = ap (replace_terms (raise 0 by)) (sym (some_injective nil ts e))
  lower_terms_are by (cons u us) ts e = go (lower by u) (lower_terms by us) (lower_is by u) (lower_terms_are by us) e
    where
      go : (o : Option Term) (p : Option Terms) → ((t : Term) → o ≡ Some t → shift_term 0 by t ≡ u) →
          ((ws : Terms) → p ≡ Some ws → replace_terms (raise 0 by) ws ≡ us) →
          and_then o (λ t. and_then p (λ ws. Some (cons t ws))) ≡ Some ts → replace_terms (raise 0 by) ts ≡ cons u us
      go None p h k q = absurd cc
      go (Some t) None h k q = absurd cc
      go (Some t) (Some ws) h k q = ap (replace_terms (raise 0 by)) (sym (some_injective (cons t ws) ts q)) ∙
          (λ i. cons (h t refl i) (k ws refl i))

mutual
  pub lower_shifted : (by : ℕ) (t : Term) → lower by (shift_term 0 by t) ≡ Some t
  lower_shifted by (var i) = lower_shifted_var by i
  lower_shifted by (app f ts) = ap (λ o. and_then o (λ us. Some (app f us))) (lower_terms_shifted by ts)

  pub lower_terms_shifted : (by : ℕ) (ts : Terms) → lower_terms by (replace_terms (raise 0 by) ts) ≡ Some ts
  lower_terms_shifted by nil = refl
  lower_terms_shifted by (cons t ts) = λ i. and_then (lower_shifted by t i) (λ u. and_then (lower_terms_shifted by ts i)
      (λ us. Some (cons u us)))
