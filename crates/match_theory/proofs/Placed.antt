-- The first place that is an instance, and that abstracting a term and putting it in again changes nothing.
use Rattle.std.proofs.Common.{◌≡◌, ◌≤◌, ℕ, zero, suc, ◌-◌, Bool, true, false, if◌then◌else◌, nat_lt, List, [], ◌∷◌, Option, Some, None, Decides, refl, sym, ap, ◌∙◌, arith}
use Rattle.std.proofs.lemmas.Bool.Decides.{nat_tests}
use Rattle.fol_theory.specs.Syntax.{Term, var, app, Terms, nil, cons, Formula, truth, falsity, pred, equal, both, either, implies, all, ex}
use Rattle.fol_theory.specs.Substitution.{replace_term, replace_terms, replace, first, instantiate, shift_term}
use Rattle.fol_theory.proofs.AtIndex.{raise_large}
use Rattle.match_theory.specs.Instances.{fill}
use Rattle.match_theory.specs.Matching.{and_then, same_term, lower, term_matches}
use Rattle.match_theory.specs.Places.{
  IsPlaceInstance,
  NoInstance,
  IsFirst,
  place_matches,
  or_else,
  first_instance,
  beyond,
  abstract_term,
  abstract_terms,
  abstracted,
}
use Rattle.match_theory.proofs.Equal.{term_decides, lower_is, lower_shifted}
use Rattle.match_theory.proofs.Solved.{lifts, lifts_small, lifts_large}
use Rattle.match_theory.proofs.Matched.{term_matches_sound, term_matches_complete}

-- ---- one place

pub place_sound : (n : ℕ) (pattern : Term) (w : ℕ × Term) (ts : List Term) → place_matches n pattern w ≡ Some ts →
    IsPlaceInstance n pattern w ts
place_sound n p w ts e = go (lower w.0 w.1) refl e
  where
    go : (o : Option Term) → lower w.0 w.1 ≡ o → and_then o (λ u. term_matches n p u) ≡ Some ts → IsPlaceInstance n p w ts
    go None q d = absurd cc
    go (Some u) q d = let r = term_matches_sound n p u ts d in (r.0, ap (shift_term 0 w.0) r.1 ∙ lower_is w.0 w.1 u q)

pub place_complete : (n : ℕ) (pattern : Term) (w : ℕ × Term) (ts : List Term) → IsPlaceInstance n pattern w ts →
    (us : List Term) × (place_matches n pattern w ≡ Some us)
place_complete n p w ts h =
    let q : lower w.0 w.1 ≡ Some (replace_term (fill ts) p) = ap (lower w.0) (sym h.1) ∙ lower_shifted w.0 (replace_term (fill ts) p) in
    let r = term_matches_complete n p (replace_term (fill ts) p) ts (h.0, refl) in
    (r.0, ap (λ o. and_then o (λ u. term_matches n p u)) q ∙ r.1)

-- ---- the first place

some_injective : {A : Type 0} (x y : A) → Some x ≡ Some y → x ≡ y
some_injective x y e = cc

pub first_sound : (n : ℕ) (pattern : Term) (ws : List (ℕ × Term)) (ts : List Term) → first_instance n pattern ws ≡ Some ts →
    IsFirst n pattern ws ts
first_sound n p [] ts e = absurd cc
first_sound n p (w ∷ ws) ts e = go (place_matches n p w) refl (first_sound n p ws ts) e
  where
    go : (o : Option (List Term)) → place_matches n p w ≡ o → (first_instance n p ws ≡ Some ts → IsFirst n p ws ts) →
        or_else o (first_instance n p ws) ≡ Some ts → IsFirst n p (w ∷ ws) ts
    go (Some us) q h d = record { before = []; place = w; behind = ws; whole = refl; is = place_sound n p w ts (q ∙ d); none_before = tt }
    go None q h d = let r = h d in record {
      before = w ∷ r.before;
      place = r.place;
      behind = r.behind;
      whole =
          ap (λ l. w ∷ l) r.whole;
      is = r.is;
      none_before = ((λ us i. none_some (place_complete n p w us i)), r.none_before);
    }
      where
        none_some : (us : List Term) × (place_matches n p w ≡ Some us) → ⊥
        none_some r = absurd (differ (r.0) (sym q ∙ r.1))
          where
            differ : (us : List Term) → ◌≡◌ {A = Option (List Term)} None (Some us) → ⊥
            differ us e = cc

pub first_complete : (n : ℕ) (pattern : Term) (ws : List (ℕ × Term)) → first_instance n pattern ws ≡ None → NoInstance n pattern ws
first_complete n p [] e = tt
first_complete n p (w ∷ ws) e = go (place_matches n p w) refl (first_complete n p ws) e
  where
    go : (o : Option (List Term)) → place_matches n p w ≡ o → (first_instance n p ws ≡ None → NoInstance n p ws) →
        or_else o (first_instance n p ws) ≡ None → NoInstance n p (w ∷ ws)
    go (Some us) q h d = absurd cc
    go None q h d = ((λ us i. let r = place_complete n p w us i in differ r.0 (sym q ∙ r.1)), h d)
      where
        differ : (us : List Term) → ◌≡◌ {A = Option (List Term)} None (Some us) → ⊥
        differ us e = cc

-- ---- abstracting

-- at each variable
put_back : (b i : ℕ) (w : Term) → replace_term (lifts b (first w)) (var (beyond b i)) ≡ var i
put_back b i w = go (nat_lt i b) refl
  where
    go : (r : Bool) → nat_lt i b ≡ r → lifts b (first w) (if r then i else suc i) ≡ var i
    go true p = lifts_small b (first w) i (grind (arith, nat_tests))
    go false p = larger (grind (arith, nat_tests))
      where
        larger : b ≤ i → lifts b (first w) (suc i) ≡ var i
        larger h = lifts_large b (first w) (suc i) (omega (arith, h)) ∙ ap (λ j. shift_term 0 b (first w j)) (one_more h) ∙
            raise_large 0 b (i - b) (omega arith) ∙ ap var (omega (arith, h))
          where
            one_more : b ≤ i → suc i - b ≡ suc (i - b)
            one_more h = omega (arith, h)

put_here : (b : ℕ) (w : Term) → lifts b (first w) b ≡ shift_term 0 b w
put_here b w = lifts_large b (first w) b (omega arith) ∙ ap (λ j. shift_term 0 b (first w j)) (less b)
  where
    less : (b : ℕ) → b - b ≡ zero
    less b = omega arith

here : (b : ℕ) (w t : Term) (u : Term) (r : Bool) → Decides r (t ≡ shift_term 0 b w) → replace_term (lifts b (first w)) u ≡ t →
    replace_term (lifts b (first w)) (if r then var b else u) ≡ t
here b w t u true d h = put_here b w ∙ sym (d.0 refl)
here b w t u false d h = h

mutual
  pub term_abstracted : (b : ℕ) (w t : Term) → replace_term (lifts b (first w)) (abstract_term b w t) ≡ t
  term_abstracted b w (var i) = here b w (var i) (var (beyond b i)) (same_term (var i) (shift_term 0 b w))
      (term_decides (var i) (shift_term 0 b w)) (put_back b i w)
  term_abstracted b w (app f ts) = here b w (app f ts) (app f (abstract_terms b w ts)) (same_term (app f ts) (shift_term 0 b w))
      (term_decides (app f ts) (shift_term 0 b w)) (ap (app f) (terms_abstracted b w ts))

  pub terms_abstracted : (b : ℕ) (w : Term) (ts : Terms) → replace_terms (lifts b (first w)) (abstract_terms b w ts) ≡ ts
  terms_abstracted b w nil = refl
  terms_abstracted b w (cons t ts) = λ i. cons (term_abstracted b w t i) (terms_abstracted b w ts i)

formula_abstracted : (b : ℕ) (w : Term) (a : Formula) → replace (lifts b (first w)) (abstracted b w a) ≡ a
formula_abstracted b w truth = refl
formula_abstracted b w falsity = refl
formula_abstracted b w (pred p ts) = ap (pred p) (terms_abstracted b w ts)
formula_abstracted b w (equal s t u) = λ i. equal s (term_abstracted b w t i) (term_abstracted b w u i)
formula_abstracted b w (both a c) = λ i. both (formula_abstracted b w a i) (formula_abstracted b w c i)
formula_abstracted b w (either a c) = λ i. either (formula_abstracted b w a i) (formula_abstracted b w c i)
formula_abstracted b w (implies a c) = λ i. implies (formula_abstracted b w a i) (formula_abstracted b w c i)
formula_abstracted b w (all s x a) = ap (all s x) (formula_abstracted (suc b) w a)
formula_abstracted b w (ex s x a) = ap (ex s x) (formula_abstracted (suc b) w a)

-- the goal is what was abstracted with the term put in
pub abstracted_back : (w : Term) (a : Formula) → instantiate (abstracted 0 w a) w ≡ a
abstracted_back w a = formula_abstracted 0 w a
