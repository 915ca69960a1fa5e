-- Without some Stated declarations normal forms are the same, and what is typed or well formed is so.
use Rattle.std.proofs.Common.{◌≡◌, ℕ, Bool, true, false, List, [], ◌∷◌, refl, sym, ap, subst, ◌∙◌, if◌then◌else◌, Option, Some, None}
use Rattle.fol_theory.specs.Syntax.{Term, var, app, Terms, nil, cons, Formula, truth, falsity, pred, equal, both, either, implies, all, ex}
use Rattle.fol_theory.specs.Syntax.{is_name}
use Rattle.fol_theory.specs.Printing.{unnamed}
use Rattle.env_theory.specs.Declarations.{Declaration, sort, function, predicate, stated, term, formula, name_of, find, sorts_of, bound}
use Rattle.env_theory.specs.Typing.{HasSort, HaveSorts, WellFormed, takes, Gives, IsSort, IsPredicate, AreSorts, Declares, Environment}
use Rattle.env_theory.specs.Normal.{expand, normal, Same}
use Rattle.env_theory.specs.Orders.{AreNamed, InOrder}
use Rattle.env_theory.specs.Thinned.{thinned, IsOther}
use Rattle.env_theory.proofs.SameNames.{one_name}
use Rattle.env_theory.proofs.Keeps.{not_found}

-- ---- what is asked of a name is asked of something else than a Stated formula

given_other : (o : Option Declaration) (s : List ℕ) → Gives o s → IsOther o
given_other None s h = h
given_other (Some (stated n a)) s h = h
given_other (Some d) s h = tt

sort_other : (o : Option Declaration) → IsSort o → IsOther o
sort_other None h = h
sort_other (Some (stated n a)) h = h
sort_other (Some d) h = tt

predicate_other : (o : Option Declaration) → IsPredicate o → IsOther o
predicate_other None h = h
predicate_other (Some (stated n a)) h = h
predicate_other (Some d) h = tt

module _ (keep : List ℕ → Bool) where
  -- ---- normal forms don't see Stated declarations

  pub thinned_normal : (E : List Declaration) (a : Formula) → normal (thinned keep E) a ≡ normal E a
  thinned_normal [] a = refl
  thinned_normal (stated n b ∷ E) a = go (keep n) (thinned_normal E a)
    where
      go : (r : Bool) → normal (thinned keep E) a ≡ normal E a
          → normal (if r then stated n b ∷ thinned keep E else thinned keep E) a ≡ normal E a
      go true h = h
      go false h = h
  thinned_normal (d ∷ E) a = thinned_normal E (expand d a)

  pub thinned_same : (E : List Declaration) (a b : Formula) → Same E a b → Same (thinned keep E) a b
  thinned_same E a b e = ap unnamed (thinned_normal E a) ∙ e ∙ sym (ap unnamed (thinned_normal E b))

  -- ---- what a name finds

  -- what is no Stated formula stays
  pub other_stays : (E : List Declaration) (n : List ℕ) → IsOther (find E n) → find (thinned keep E) n ≡ find E n
  other_stays [] n h = refl
  other_stays (stated m a ∷ E) n h = go (is_name m n) (keep m) refl h (λ k. other_stays E n k)
    where
      go : (q r : Bool) → is_name m n ≡ q → IsOther (if q then Some (stated m a) else find E n)
          → (IsOther (find E n) → find (thinned keep E) n ≡ find E n) →
          find (if r then stated m a ∷ thinned keep E else thinned keep E) n ≡ (if q then Some (stated m a) else find E n)
      go true r e k f = absurd k
      go false true e k f = ap (λ z. if z then Some (stated m a) else find (thinned keep E) n) e ∙ f k
      go false false e k f = f k
  other_stays (d ∷ E) n h = go (is_name (name_of d) n) h (λ k. other_stays E n k)
    where
      go : (q : Bool) → IsOther (if q then Some d else find E n) → (IsOther (find E n) → find (thinned keep E) n ≡ find E n) →
          (if q then Some d else find (thinned keep E) n) ≡ (if q then Some d else find E n)
      go true k f = refl
      go false k f = f k

  -- nothing is found that wasn't
  pub none_stays : (E : List Declaration) (n : List ℕ) → find E n ≡ None → find (thinned keep E) n ≡ None
  none_stays [] n h = refl
  none_stays (stated m a ∷ E) n h = go (keep m) (none_stays E n (not_found (stated m a) E n h).1)
    where
      go : (r : Bool) → find (thinned keep E) n ≡ None → find (if r then stated m a ∷ thinned keep E else thinned keep E) n ≡ None
      go true f = ap (λ z. if z then Some (stated m a) else find (thinned keep E) n) (not_found (stated m a) E n h).0 ∙ f
      go false f = f
  none_stays (d ∷ E) n h =
      ap (λ z. if z then Some d else find (thinned keep E) n) (not_found d E n h).0 ∙ none_stays E n (not_found d E n h).1

  -- a Stated formula stays whose name is kept
  pub kept_stays : (E : List Declaration) (n m : List ℕ) (a : Formula) → keep n ≡ true → find E n ≡ Some (stated m a)
      → find (thinned keep E) n ≡ Some (stated m a)
  kept_stays [] n m a k h = h
  kept_stays (stated l b ∷ E) n m a k h = go (is_name l n) (keep l) refl refl h (λ e. kept_stays E n m a k e)
    where
      go : (q r : Bool) → is_name l n ≡ q → keep l ≡ r → (if q then Some (stated l b) else find E n) ≡ Some (stated m a) →
          (find E n ≡ Some (stated m a) → find (thinned keep E) n ≡ Some (stated m a)) →
          find (if r then stated l b ∷ thinned keep E else thinned keep E) n ≡ Some (stated m a)
      go true true e f g i = ap (λ z. if z then Some (stated l b) else find (thinned keep E) n) e ∙ g
      go true false e f g i = absurd (differ (sym k ∙ ap keep (sym (one_name l n e)) ∙ f))
        where
          differ : true ≡ false → ⊥
          differ h = cc
      go false true e f g i = ap (λ z. if z then Some (stated l b) else find (thinned keep E) n) e ∙ i g
      go false false e f g i = i g
  kept_stays (d ∷ E) n m a k h = go (is_name (name_of d) n) h (λ e. kept_stays E n m a k e)
    where
      go : (q : Bool) → (if q then Some d else find E n) ≡ Some (stated m a)
          → (find E n ≡ Some (stated m a) → find (thinned keep E) n ≡ Some (stated m a)) →
          (if q then Some d else find (thinned keep E) n) ≡ Some (stated m a)
      go true g i = g
      go false g i = i g

  -- ---- terms and formulas

  pub thinned_is_sort : (E : List Declaration) (n : List ℕ) → IsSort (find E n) → IsSort (find (thinned keep E) n)
  thinned_is_sort E n h = subst IsSort (sym (other_stays E n (sort_other (find E n) h))) h

  mutual
    pub thinned_sort : (E : List Declaration) (V : List (List ℕ)) (t : Term) (s : List ℕ) → HasSort E V t s → HasSort (thinned keep E) V t s
    thinned_sort E V (var i) s h = h
    thinned_sort E V (app f ts) s h =
        let e = sym (other_stays E f (given_other (find E f) s h.0)) in (
          subst (λ o. Gives o s) e h.0,
          subst (λ o. HaveSorts (thinned keep E) V ts (takes o)) e (thinned_sorts E V ts (takes (find E f)) h.1),
        )

    pub thinned_sorts : (E : List Declaration) (V : List (List ℕ)) (ts : Terms) (ss : List (List ℕ)) → HaveSorts E V ts ss
        → HaveSorts (thinned keep E) V ts ss
    thinned_sorts E V nil [] h = h
    thinned_sorts E V nil (s ∷ ss) h = h
    thinned_sorts E V (cons t ts) [] h = h
    thinned_sorts E V (cons t ts) (s ∷ ss) h = (thinned_sort E V t s h.0, thinned_sorts E V ts ss h.1)

  pub thinned_formed : (E : List Declaration) (V : List (List ℕ)) (a : Formula) → WellFormed E V a → WellFormed (thinned keep E) V a
  thinned_formed E V truth h = h
  thinned_formed E V falsity h = h
  thinned_formed E V (pred p ts) h =
      let e = sym (other_stays E p (predicate_other (find E p) h.0)) in
      (subst IsPredicate e h.0, subst (λ o. HaveSorts (thinned keep E) V ts (takes o)) e (thinned_sorts E V ts (takes (find E p)) h.1))
  thinned_formed E V (equal s t u) h = (thinned_is_sort E s h.0, thinned_sort E V t s h.1, thinned_sort E V u s h.2)
  thinned_formed E V (both a b) h = (thinned_formed E V a h.0, thinned_formed E V b h.1)
  thinned_formed E V (either a b) h = (thinned_formed E V a h.0, thinned_formed E V b h.1)
  thinned_formed E V (implies a b) h = (thinned_formed E V a h.0, thinned_formed E V b h.1)
  thinned_formed E V (all s x a) h = (thinned_is_sort E s h.0, thinned_formed E (s ∷ V) a h.1)
  thinned_formed E V (ex s x a) h = (thinned_is_sort E s h.0, thinned_formed E (s ∷ V) a h.1)

  -- ---- the environment stays in order

  thinned_are_sorts : (E : List Declaration) (ss : List (List ℕ)) → AreSorts E ss → AreSorts (thinned keep E) ss
  thinned_are_sorts E [] h = h
  thinned_are_sorts E (s ∷ ss) h = (thinned_is_sort E s h.0, thinned_are_sorts E ss h.1)

  thinned_declares : (E : List Declaration) (d : Declaration) → Declares E d → Declares (thinned keep E) d
  thinned_declares E (sort n) h = h
  thinned_declares E (function n ss s) h = (thinned_are_sorts E ss h.0, thinned_is_sort E s h.1)
  thinned_declares E (predicate n ss) h = thinned_are_sorts E ss h
  thinned_declares E (stated n a) h = thinned_formed E [] a h
  thinned_declares E (term n ps s b) h = (thinned_are_sorts E (sorts_of ps) h.0, thinned_is_sort E s h.1, thinned_sort E (bound ps) b s h.2)
  thinned_declares E (formula n ps b) h = (thinned_are_sorts E (sorts_of ps) h.0, thinned_formed E (bound ps) b h.1)

  pub thinned_environment : (E : List Declaration) → Environment E → Environment (thinned keep E)
  thinned_environment [] x = x
  thinned_environment (stated n a ∷ E) x = go (keep n) (none_stays E n x.0) (thinned_formed E [] a x.1) (thinned_environment E x.2)
    where
      go : (r : Bool) → find (thinned keep E) n ≡ None → WellFormed (thinned keep E) [] a → Environment (thinned keep E) →
          Environment (if r then stated n a ∷ thinned keep E else thinned keep E)
      go true new k y = (new, k, y)
      go false new k y = y
  thinned_environment (d ∷ E) x = (none_stays E (name_of d) x.0, thinned_declares E d x.1, thinned_environment E x.2)

  thinned_named : (E : List Declaration) → AreNamed E → AreNamed (thinned keep E)
  thinned_named [] x = x
  thinned_named (stated n a ∷ E) x = go (keep n) (thinned_named E x.2)
    where
      go : (r : Bool) → AreNamed (thinned keep E) → AreNamed (if r then stated n a ∷ thinned keep E else thinned keep E)
      go true y = (x.0, x.1, y)
      go false y = y
  thinned_named (d ∷ E) x = (x.0, x.1, thinned_named E x.2)

  pub thinned_in_order : (E : List Declaration) → InOrder E → InOrder (thinned keep E)
  thinned_in_order E o = (thinned_environment E o.0, thinned_named E o.1)
