-- The sorts of the terms of an instance.
use Rattle.env_theory.specs.Orders.{Lawful}
use Rattle.env_theory.proofs.Sorts.{sort_unique}
use Rattle.env_theory.specs.Declarations.{find}
use Rattle.env_theory.specs.Typing.{takes, At, HasSort, HaveSorts, WellFormed, Fits}
use Rattle.env_theory.specs.Declarations.{Declaration}
use Rattle.std.proofs.Common.{◌≡◌, ℕ, zero, suc, ◌+◌, ◌-◌, ◌<◌, ◌≤◌, List, [], ◌∷◌, ◌++◌, length, sym, subst, ◌∙◌, arith, ◌⊎◌, inl, inr}
use Rattle.fol_theory.specs.Syntax.{Term, var, app, Terms, nil, cons, Formula, truth, falsity, pred, equal, both, either, implies, all, ex}
use Rattle.fol_theory.specs.Substitution.{replace_term, replace_terms, replace, next, lift, raise, shift_term}
use Rattle.fol_theory.specs.Printing.{unnamed, Alike}
use Rattle.fol_theory.proofs.AtIndex.{raise_large, side}
use Rattle.match_theory.specs.Instances.{fill, IsInstance, OccursInTerm, OccursInTerms, Occurs}
use Rattle.match_theory.proofs.Matched.{lowers_filled}

-- ---- sorts are determined

pub at_once : (V : List (List ℕ)) (i : ℕ) (s r : List ℕ) → At V i s → At V i r → s ≡ r
at_once [] i s r p q = absurd p
at_once (v ∷ V) zero s r p q = sym p ∙ q
at_once (v ∷ V) (suc i) s r p q = at_once V i s r p q

pub sort_once : (E : List Declaration) → Lawful E → (V : List (List ℕ)) (t : Term) (s r : List ℕ) → HasSort E V t s →
    HasSort E V t r → s ≡ r
sort_once E l V t s r p q = sort_unique E V t s r p q

-- ---- variables of two lists

pub at_behind : (U V : List (List ℕ)) (i : ℕ) (s : List ℕ) → length U ≤ i → At (U ++ V) i s → At V (i - length U) s
at_behind [] V i s h p = subst (λ j. At V j s) (less i) p
  where
    less : (i : ℕ) → i ≡ i - 0
    less i = omega arith
at_behind (u ∷ U) V zero s h p = absurd (omega (arith, h))
at_behind (u ∷ U) V (suc i) s h p = subst (λ j. At V j s) (less i (length U)) (at_behind U V i s (omega (arith, h)) p)
  where
    less : (i n : ℕ) → i - n ≡ suc i - suc n
    less i n = omega arith

pub at_further : (U V : List (List ℕ)) (i : ℕ) (s : List ℕ) → At (U ++ V) (i + length U) s → At V i s
at_further U V i s p = subst (λ j. At V j s) (less i (length U)) (at_behind U V (i + length U) s (omega arith) p)
  where
    less : (i n : ℕ) → i + n - n ≡ i
    less i n = omega arith

-- a term from which variables were changed, with the sorts that those had
mutual
  pub unchanged_sort : (E : List Declaration) (V W : List (List ℕ)) (ρ : ℕ → Term) →
      ((i : ℕ) (s : List ℕ) → HasSort E W (ρ i) s → At V i s) → (t : Term) (s : List ℕ) → HasSort E W (replace_term ρ t) s → HasSort E V t s
  unchanged_sort E V W ρ h (var i) s p = h i s p
  unchanged_sort E V W ρ h (app f ts) s p = (p.0, unchanged_sorts E V W ρ h ts (takes (find E f)) p.1)

  pub unchanged_sorts : (E : List Declaration) (V W : List (List ℕ)) (ρ : ℕ → Term) →
      ((i : ℕ) (s : List ℕ) → HasSort E W (ρ i) s → At V i s) → (ts : Terms) (ss : List (List ℕ)) →
      HaveSorts E W (replace_terms ρ ts) ss → HaveSorts E V ts ss
  unchanged_sorts E V W ρ h nil [] p = tt
  unchanged_sorts E V W ρ h nil (s ∷ ss) p = absurd p
  unchanged_sorts E V W ρ h (cons t ts) [] p = absurd p
  unchanged_sorts E V W ρ h (cons t ts) (s ∷ ss) p = (unchanged_sort E V W ρ h t s p.0, unchanged_sorts E V W ρ h ts ss p.1)

pub not_next : (E : List Declaration) (V : List (List ℕ)) (r : List ℕ) (t : Term) (s : List ℕ) →
    HasSort E (r ∷ V) (replace_term next t) s → HasSort E V t s
not_next E V r t s p = unchanged_sort E V (r ∷ V) next (λ i q h. h) t s p

pub not_shifted : (E : List Declaration) (U V : List (List ℕ)) (t : Term) (s : List ℕ) →
    HasSort E (U ++ V) (shift_term 0 (length U) t) s → HasSort E V t s
not_shifted E U V t s p = unchanged_sort E V (U ++ V) (raise 0 (length U))
    (λ i q h. at_further U V i q (subst (λ z. HasSort E (U ++ V) z q) (raise_large 0 (length U) i (omega arith)) h)) t s p

-- ---- the terms that are put in have the sorts of their variables, where these occur

module _ (E : List Declaration) (σ : ℕ → Term) (V W : List (List ℕ)) (i : ℕ) (r : List ℕ) (a : At W i r) where
  mutual
    pub put_in_sort : (t : Term) (s : List ℕ) → HasSort E W t s → HasSort E V (replace_term σ t) s → OccursInTerm i t → HasSort E V (σ i) r
    put_in_sort (var j) s p q o =
        subst (HasSort E V (σ i)) (sym (at_once W i r s a (subst (λ k. At W k s) (sym o) p))) (subst (λ k. HasSort E V (σ k) s) (sym o) q)
    put_in_sort (app f ts) s p q o = put_in_sorts ts (takes (find E f)) p.1 q.1 o

    pub put_in_sorts : (ts : Terms) (ss : List (List ℕ)) → HaveSorts E W ts ss → HaveSorts E V (replace_terms σ ts) ss →
        OccursInTerms i ts → HasSort E V (σ i) r
    put_in_sorts nil ss p q o = absurd o
    put_in_sorts (cons t ts) [] p q o = absurd p
    put_in_sorts (cons t ts) (s ∷ ss) p q (inl o) = put_in_sort t s p.0 q.0 o
    put_in_sorts (cons t ts) (s ∷ ss) p q (inr o) = put_in_sorts ts ss p.1 q.1 o

-- a formula over W, and over V with the terms put in
abbrev pub FormedBoth : List Declaration → (ℕ → Term) → List (List ℕ) → List (List ℕ) → Formula → Type 0
FormedBoth E σ V W a = WellFormed E W a × WellFormed E V (replace σ a)

module _ (E : List Declaration) (r : List ℕ) where
  pub put_in_formula : (σ : ℕ → Term) (V W : List (List ℕ)) (i : ℕ) → At W i r → (a : Formula) → FormedBoth E σ V W a → Occurs i a →
      HasSort E V (σ i) r
  put_in_formula σ V W i h truth p o = absurd o
  put_in_formula σ V W i h falsity p o = absurd o
  put_in_formula σ V W i h (pred n ts) (p, q) o = put_in_sorts E σ V W i r h ts (takes (find E n)) p.1 q.1 o
  put_in_formula σ V W i h (equal s t u) (p, q) (inl o) = put_in_sort E σ V W i r h t s p.1 q.1 o
  put_in_formula σ V W i h (equal s t u) (p, q) (inr o) = put_in_sort E σ V W i r h u s p.2 q.2 o
  put_in_formula σ V W i h (both a b) (p, q) (inl o) = put_in_formula σ V W i h a (p.0, q.0) o
  put_in_formula σ V W i h (both a b) (p, q) (inr o) = put_in_formula σ V W i h b (p.1, q.1) o
  put_in_formula σ V W i h (either a b) (p, q) (inl o) = put_in_formula σ V W i h a (p.0, q.0) o
  put_in_formula σ V W i h (either a b) (p, q) (inr o) = put_in_formula σ V W i h b (p.1, q.1) o
  put_in_formula σ V W i h (implies a b) (p, q) (inl o) = put_in_formula σ V W i h a (p.0, q.0) o
  put_in_formula σ V W i h (implies a b) (p, q) (inr o) = put_in_formula σ V W i h b (p.1, q.1) o
  put_in_formula σ V W i h (all s x a) (p, q) o =
      not_next E V s (σ i) r (put_in_formula (lift σ) (s ∷ V) (s ∷ W) (suc i) h a (p.1, q.1) o)
  put_in_formula σ V W i h (ex s x a) (p, q) o =
      not_next E V s (σ i) r (put_in_formula (lift σ) (s ∷ V) (s ∷ W) (suc i) h a (p.1, q.1) o)

-- ---- printing names

pub unnamed_formed : (E : List Declaration) (V : List (List ℕ)) (a : Formula) → WellFormed E V a → WellFormed E V (unnamed a)
unnamed_formed E V truth p = p
unnamed_formed E V falsity p = p
unnamed_formed E V (pred n ts) p = p
unnamed_formed E V (equal s t u) p = p
unnamed_formed E V (both a b) p = (unnamed_formed E V a p.0, unnamed_formed E V b p.1)
unnamed_formed E V (either a b) p = (unnamed_formed E V a p.0, unnamed_formed E V b p.1)
unnamed_formed E V (implies a b) p = (unnamed_formed E V a p.0, unnamed_formed E V b p.1)
unnamed_formed E V (all s x a) p = (p.0, unnamed_formed E (s ∷ V) a p.1)
unnamed_formed E V (ex s x a) p = (p.0, unnamed_formed E (s ∷ V) a p.1)

pub formed_unnamed : (E : List Declaration) (V : List (List ℕ)) (a : Formula) → WellFormed E V (unnamed a) → WellFormed E V a
formed_unnamed E V truth p = p
formed_unnamed E V falsity p = p
formed_unnamed E V (pred n ts) p = p
formed_unnamed E V (equal s t u) p = p
formed_unnamed E V (both a b) p = (formed_unnamed E V a p.0, formed_unnamed E V b p.1)
formed_unnamed E V (either a b) p = (formed_unnamed E V a p.0, formed_unnamed E V b p.1)
formed_unnamed E V (implies a b) p = (formed_unnamed E V a p.0, formed_unnamed E V b p.1)
formed_unnamed E V (all s x a) p = (p.0, formed_unnamed E (s ∷ V) a p.1)
formed_unnamed E V (ex s x a) p = (p.0, formed_unnamed E (s ∷ V) a p.1)

pub alike_formed : (E : List Declaration) (V : List (List ℕ)) (a b : Formula) → Alike a b → WellFormed E V b → WellFormed E V a
alike_formed E V a b e p = formed_unnamed E V a (subst (WellFormed E V) (sym e) (unnamed_formed E V b p))

-- ---- a filled pattern: the open variables have their sorts, the others are lowered

module _ (E : List Declaration) (U V : List (List ℕ)) (ts : List Term) where
  pub fits_filled : length ts ≡ length U →
      ((i : ℕ) (s : List ℕ) → i < length U → At (U ++ V) i s → HasSort E V (fill ts i) s) → Fits E (fill ts) (U ++ V) V
  fits_filled e h i s p = go (side i (length U))
    where
      go : (i < length U) ⊎ (length U ≤ i) → HasSort E V (fill ts i) s
      go (inl k) = h i s k p
      go (inr k) = subst (λ z. HasSort E V z s) (sym (lowers_filled (length U) ts e i k)) (at_behind U V i s k p)

  pub fits_instance : (a b : Formula) → IsInstance (length U) a b ts → WellFormed E (U ++ V) a → WellFormed E V b →
      ((i : ℕ) → i < length U → Occurs i a) → Fits E (fill ts) (U ++ V) V
  fits_instance a b m p q o = fits_filled m.0 (λ i s k r. put_in_formula E s (fill ts) V (U ++ V) i r a
      (p, alike_formed E V (replace (fill ts) a) b m.1 q) (o i k))
