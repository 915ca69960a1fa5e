-- Matching of what values stand for: a variable given, terms in order, each variant of a formula.
use Rattle.std.proofs.Common.{◌≡◌, ◌↔◌, ℕ, zero, suc, ◌+◌, ◌-◌, ◌<◌, ◌≤◌, Bool, true, false, if◌then◌else◌, nat_lt, List, [], ◌∷◌, length, map, get_or, set, take, drop, Option, Some, None, refl, sym, ap, subst, ◌∙◌, arith, Decides, IsTrue, add-zero, add-one}
use Rattle.std.specs.Prelude.{option_map, is_some}
use Rattle.std.specs.declared.alloc.Global.{Global}
use Rattle.std.specs.declared.sync.Arc.{Arc}
use Rattle.std.specs.declared.sync.ArcSlice.{ArcSlice}
use Rattle.std.specs.Arc.{arc_slice_items, arc_value}
use Rattle.std.specs.Cmp.Lexicographic.{bytes_decides}
use Rattle.std.proofs.lemmas.Bool.Decides.{nat_tests, same_from_decides}
use Rattle.std.proofs.lemmas.List.{drop_more, drop_all, length-map, map-set, get_or-map}
use Rattle.fol_theory.specs.Syntax.{Term as TermMeaning, Terms, Formula as Meaning, var, nil, cons, truth, falsity, pred, equal, both, either, implies, all, ex, is_name}
use Rattle.fol_theory.specs.Substitution.{replace_term, replace_terms, raise, shift_term}
use Rattle.fol_theory.specs.Printing.{unnamed}
use Rattle.fol_theory.proofs.Laws.{term_undo}
use Rattle.fol_theory.proofs.Pairs.{shift_injective_term}
use Rattle.fol_theory.proofs.AtIndex.{raise_small, raise_large, shift_none_term}
use Rattle.match_theory.specs.Matching.{and_then, same_term, lower, give, match_var, match_term, match_terms, match_formula}
use Rattle.match_theory.proofs.Equal.{term_decides, lower_is, lower_shifted}
use Rattle.term_core.specs.Term as term
use Rattle.term_core.specs.Formula.{meaning}
use Rattle.term_core.specs.declared.term.Term.{Term}
use Rattle.term_core.specs.declared.formula.Formula.{Formula}
use Rattle.term_core.specs.declared.formula.Formula.TheVariants as made
use Rattle.term_core.proofs.Applications.{meaning_App}
use Rattle.term_core.proofs.Variants.{meaning_True, meaning_False, meaning_Pred, meaning_Eq, meaning_And, meaning_Or, meaning_Imp, meaning_All, meaning_Ex}
use Rattle.term_core.proofs.Shapes.{Kind, kind, IsMade, made_alike}
use Rattle.match_core.specs.Moves.{lowering}
use Rattle.match_core.specs.declared.found.Found.{Found}
use Rattle.match_core.specs.Tables.{found_term, table, told}
use Rattle.match_core.proofs.Lowered.{meaning_Var}

-- ---- one step behind another

-- a step that goes well hands on what is known
pub goes_on : {A : Type 0} (xs : List (Option Found)) (o : Option (List (Option TermMeaning))) (f : List (Option TermMeaning) → Option A)
    → told true xs ≡ o → and_then o f ≡ f (table xs)
goes_on xs o f e = ap (λ p. and_then p f) (sym e)

-- one that doesn't ends it
pub ends : {A : Type 0} (xs : List (Option Found)) (o : Option (List (Option TermMeaning))) (f : List (Option TermMeaning) → Option A)
    → told false xs ≡ o → and_then o f ≡ None
ends xs o f e = ap (λ p. and_then p f) (sym e)

-- a test of a name
pub name_is : {A : Type 0} (r : Bool) (f g : List ℕ) (o : Option A) → (IsTrue r ↔ (f ≡ g)) → r ≡ true → o ≡ (if is_name f g then o else None)
name_is r f g o h e = ap (λ q. if q then o else None) (sym ((bytes_decides f g).1 (h.0 e)))

pub name_differs : {A : Type 0} (r : Bool) (f g : List ℕ) (o : Option A) → (IsTrue r ↔ (f ≡ g)) → r ≡ false → None ≡ (if is_name f g then o else None)
name_differs r f g o h e = go (is_name f g) (bytes_decides f g)
  where
    differ : false ≡ true → ⊥
    differ p = cc

    go : (q : Bool) → Decides q (f ≡ g) → None ≡ (if q then o else None)
    go true d = absurd (differ (sym e ∙ h.1 (d.0 refl)))
    go false d = refl

-- a test of a term
pub same_is : {A : Type 0} (r : Bool) (t u : TermMeaning) (x : A) → (IsTrue r ↔ (u ≡ t)) → (if r then Some x else None) ≡ (if same_term t u then Some x else None)
same_is r t u x h = ap (λ q. if q then Some x else None) (same_from_decides r (same_term t u) (λ e. sym (h.0 e), λ e. h.1 (sym e)) (term_decides t u))

-- ---- what is known of the variables

length_table : (xs : List (Option Found)) → length (table xs) ≡ length xs
length_table xs = length-map xs (option_map found_term)

no_place : {X : Type 0} (i : ℕ) → i < 0 → X
no_place i h = absurd (omega (arith, h))

give_new : (m : List (Option TermMeaning)) (i : ℕ) (t : TermMeaning) → i < length m → get_or m i None ≡ None
    → give i t m ≡ Some (set m i (Some t))
give_new [] i t h e = no_place i h
give_new (None ∷ m) zero t h e = refl
give_new (Some u ∷ m) zero t h e = absurd cc
give_new (x ∷ m) (suc i) t h e = ap (λ o. and_then o (λ k. Some (x ∷ k))) (give_new m i t (omega (arith, h)) e)

give_again : (m : List (Option TermMeaning)) (i : ℕ) (t u : TermMeaning) → i < length m → get_or m i None ≡ Some u
    → give i t m ≡ (if same_term u t then Some m else None)
give_again [] i t u h e = no_place i h
give_again (None ∷ m) zero t u h e = absurd cc
give_again (Some w ∷ m) zero t u h e = ap (λ z. if same_term z t then Some (Some w ∷ m) else None) (some_is w u e)
  where
    some_is : (w u : TermMeaning) → Some w ≡ Some u → w ≡ u
    some_is w u e = cc
give_again (x ∷ m) (suc i) t u h e =
    ap (λ o. and_then o (λ k. Some (x ∷ k))) (give_again m i t u (omega (arith, h)) e) ∙ pushed (same_term u t)
  where
    pushed : (r : Bool) → and_then (if r then Some m else None) (λ k. Some (x ∷ k)) ≡ (if r then Some (x ∷ m) else None)
    pushed true = refl
    pushed false = refl

entry : (xs : List (Option Found)) (i : ℕ) (d : Option Found) → i < length xs
    → get_or (table xs) i None ≡ option_map found_term (get_or xs i d)
entry xs i d h = get_or-map (option_map found_term) xs i d None h

-- a variable that has no term yet gets this one
pub given_new : (xs : List (Option Found)) (i : ℕ) (d : Option Found) (f : Found) → i < length xs → get_or xs i d ≡ None
    → give i (found_term f) (table xs) ≡ Some (table (set xs i (Some f)))
given_new xs i d f h e =
    give_new (table xs) i (found_term f) (subst (λ n. i < n) (sym (length_table xs)) h)
    (entry xs i d h ∙ ap (option_map found_term) e)
    ∙ ap Some (sym (map-set (option_map found_term) xs i (Some f)))

-- a variable that has one must have this one
pub given_again : (xs : List (Option Found)) (i : ℕ) (d : Option Found) (f : Found) (t : TermMeaning) → i < length xs
    → get_or xs i d ≡ Some f → give i t (table xs) ≡ (if same_term (found_term f) t then Some (table xs) else None)
given_again xs i d f t h e =
    give_again (table xs) i t (found_term f) (subst (λ n. i < n) (sym (length_table xs)) h)
    (entry xs i d h ∙ ap (option_map found_term) e)

-- ---- terms without the variables bound above their places

lower_back : (b : ℕ) (t : TermMeaning) → replace_term (lowering b) (shift_term 0 b t) ≡ t
lower_back b t = term_undo (lowering b) (raise 0 b) at t
  where
    at : (i : ℕ) → replace_term (lowering b) (raise 0 b i) ≡ var i
    at i = ap (replace_term (lowering b)) (raise_large 0 b i (omega arith)) ∙ ap var (omega arith)

pub not_outside : {A : Type 0} (o : Option TermMeaning) (f : TermMeaning → Option A) → is_some o ≡ false → None ≡ and_then o f
not_outside None f h = refl
not_outside (Some t) f h = absurd cc

-- a term that has none of them is what is found there
pub lower_outside : (b : ℕ) (u : Term) (f : Found) → is_some (lower b (term.meaning u)) ≡ true → f.binders ≡ b → f.term.now ≡ u
    → lower b (term.meaning u) ≡ Some (found_term f)
lower_outside b u f h p q = go (lower b (term.meaning u)) refl h
  where
    lowered : (t : TermMeaning) → lower b (term.meaning u) ≡ Some t → t ≡ replace_term (lowering b) (term.meaning u)
    lowered t e = sym (lower_back b t) ∙ ap (replace_term (lowering b)) (lower_is b (term.meaning u) t e)

    go : (o : Option TermMeaning) → lower b (term.meaning u) ≡ o → is_some o ≡ true → o ≡ Some (found_term f)
    go None e h = absurd cc
    go (Some t) e h = ap Some (lowered t e ∙ (λ i. replace_term (lowering (sym p i)) (term.meaning (sym q i))))

-- the term that is known, under binders, is the other one exactly where this is the known one under them
pub moved_decides : (b : ℕ) (r : Bool) (w u t : TermMeaning) → (IsTrue r ↔ (shift_term 0 b w ≡ u)) → lower b u ≡ Some t → r ≡ same_term w t
moved_decides b r w u t h e =
    let back = lower_is b u t e in
    same_from_decides r (same_term w t)
    (λ p. shift_injective_term 0 b w t (h.0 p ∙ sym back), λ p. h.1 (ap (shift_term 0 b) p ∙ back)) (term_decides w t)

pub moved_nowhere : (b : ℕ) (r : Bool) (w u : TermMeaning) → (IsTrue r ↔ (shift_term 0 b w ≡ u)) → lower b u ≡ None → r ≡ false
moved_nowhere b true w u h e = absurd (none_some w (sym e ∙ ap (lower b) (sym (h.0 refl)) ∙ lower_shifted b w))
  where
    none_some : (t : TermMeaning) → ◌≡◌ {A = Option TermMeaning} None (Some t) → ⊥
    none_some t e = cc
moved_nowhere b false w u h e = refl

-- giving a variable a term again
pub told_again : (b : ℕ) (r : Bool) (f : Found) (u : TermMeaning) (xs : List (Option Found)) (g : TermMeaning → Option (List (Option TermMeaning)))
    → (IsTrue r ↔ (shift_term 0 b (found_term f) ≡ u)) → ((t : TermMeaning) → g t ≡ (if same_term (found_term f) t then Some (table xs) else None))
    → told r xs ≡ and_then (lower b u) g
told_again b r f u xs g h k = go (lower b u) refl
  where
    go : (o : Option TermMeaning) → lower b u ≡ o → told r xs ≡ and_then o g
    go None e = ap (λ q. told q xs) (moved_nowhere b r (found_term f) u h e)
    go (Some t) e = ap (λ q. told q xs) (moved_decides b r (found_term f) u t h e) ∙ sym (k t)

-- ---- a variable of the pattern

module _ (n k : ℕ) (u : TermMeaning) (m : List (Option TermMeaning)) where
  at_bound : (i : ℕ) → i < k → match_var n k i u m ≡ (if same_term (var i) u then Some m else None)
  at_bound i h = go (nat_lt i k) refl
    where
      go : (r : Bool) → nat_lt i k ≡ r → (if r then (if same_term (var i) u then Some m else None)
          else (if nat_lt (i - k) n then and_then (lower k u) (λ t. give (i - k) t m) else (if same_term (var (i - n)) u then Some m else None)))
          ≡ (if same_term (var i) u then Some m else None)
      go true p = refl
      go false p = absurd (grind (arith, nat_tests))

  pub at_open : (i : ℕ) → k ≤ i → i - k < n → match_var n k i u m ≡ and_then (lower k u) (λ t. give (i - k) t m)
  at_open i h l = go (nat_lt i k) (nat_lt (i - k) n) refl refl
    where
      go : (r s : Bool) → nat_lt i k ≡ r → nat_lt (i - k) n ≡ s → (if r then (if same_term (var i) u then Some m else None)
          else (if s then and_then (lower k u) (λ t. give (i - k) t m) else (if same_term (var (i - n)) u then Some m else None)))
          ≡ and_then (lower k u) (λ t. give (i - k) t m)
      go true s p q = absurd (grind (arith, nat_tests))
      go false true p q = refl
      go false false p q = absurd (grind (arith, nat_tests))

  pub at_free : (i : ℕ) → k ≤ i → n ≤ i - k → match_var n k i u m ≡ (if same_term (var (i - n)) u then Some m else None)
  at_free i h l = go (nat_lt i k) (nat_lt (i - k) n) refl refl
    where
      go : (r s : Bool) → nat_lt i k ≡ r → nat_lt (i - k) n ≡ s → (if r then (if same_term (var i) u then Some m else None)
          else (if s then and_then (lower k u) (λ t. give (i - k) t m) else (if same_term (var (i - n)) u then Some m else None)))
          ≡ (if same_term (var (i - n)) u then Some m else None)
      go true s p q = absurd (grind (arith, nat_tests))
      go false true p q = absurd (grind (arith, nat_tests))
      go false false p q = refl

-- shifted past the further binders
module _ (n b e : ℕ) (u : TermMeaning) (m : List (Option TermMeaning)) where
  pub bound_variable : (i j : ℕ) → i < b → j ≡ i
      → (if same_term (var j) u then Some m else None) ≡ match_term n (b + e) (shift_term b e (var i)) u m
  bound_variable i j h q =
      ap (λ l. if same_term (var l) u then Some m else None) q
      ∙ sym (at_bound n (b + e) u m i (omega (arith, h)))
      ∙ sym (ap (λ t. match_term n (b + e) t u m) (raise_small b e i h))

  pub open_variable : (i : ℕ) → b ≤ i → i - b < n
      → and_then (lower (b + e) u) (λ t. give (i - b) t m) ≡ match_term n (b + e) (shift_term b e (var i)) u m
  open_variable i h l =
      ap (λ j. and_then (lower (b + e) u) (λ t. give j t m)) (omega (arith, h))
      ∙ sym (at_open n (b + e) u m (i + e) (omega (arith, h)) (omega (arith, l)))
      ∙ sym (ap (λ t. match_term n (b + e) t u m) (raise_large b e i h))

  pub free_variable : (i j : ℕ) → b ≤ i → n ≤ i - b → j ≡ i - n + e
      → (if same_term (var j) u then Some m else None) ≡ match_term n (b + e) (shift_term b e (var i)) u m
  free_variable i j h l q =
      ap (λ o. if same_term (var o) u then Some m else None) (further q)
      ∙ sym (at_free n (b + e) u m (i + e) (omega (arith, h)) (omega (arith, h, l)))
      ∙ sym (ap (λ t. match_term n (b + e) t u m) (raise_large b e i h))
    where
      further : j ≡ i - n + e → j ≡ i + e - n
      further q = omega (arith, q, h, l)

-- ---- terms in order

and_then_none : {A B : Type 0} (o : Option A) (f : A → Option B) → ((x : A) → f x ≡ None) → and_then o f ≡ None
and_then_none None f h = refl
and_then_none (Some x) f h = h x

module _ (n b e : ℕ) where
  -- the terms of the pattern, past the further binders
  abbrev pub raised : List Term → Terms
  raised ts = replace_terms (raise b e) (term.list_meaning ts)

  pub lengths_differ : (ts us : List Term) (m : List (Option TermMeaning)) → (length ts ≡ length us → ⊥)
      → match_terms n (b + e) (raised ts) (term.list_meaning us) m ≡ None
  lengths_differ [] [] m h = absurd (h refl)
  lengths_differ [] (u ∷ us) m h = refl
  lengths_differ (t ∷ ts) [] m h = refl
  lengths_differ (t ∷ ts) (u ∷ us) m h =
      and_then_none (match_term n (b + e) (shift_term b e (term.meaning t)) (term.meaning u) m)
      (λ k. match_terms n (b + e) (raised ts) (term.list_meaning us) k) (λ k. lengths_differ ts us k (λ q. h (ap suc q)))

  pub terms_more : (ts us : List Term) (i : ℕ) (t u : Term) (m : List (Option TermMeaning)) → (i < length ts) × (t ≡ get_or ts i t)
      → (i < length us) × (u ≡ get_or us i u) → match_terms n (b + e) (raised (drop i ts)) (term.list_meaning (drop i us)) m
      ≡ and_then (match_term n (b + e) (shift_term b e (term.meaning t)) (term.meaning u) m)
      (λ k. match_terms n (b + e) (raised (drop (i + 1) ts)) (term.list_meaning (drop (i + 1) us)) k)
  terms_more ts us i t u m p q = λ j. match_terms n (b + e) (raised (split ts t p j)) (term.list_meaning (split us u q j)) m
    where
      split : (xs : List Term) (x : Term) → (i < length xs) × (x ≡ get_or xs i x) → drop i xs ≡ x ∷ drop (i + 1) xs
      split xs x h = drop_more xs i x h.0 ∙ ap (λ y. y ∷ drop (i + 1) xs) (sym h.1)

  pub terms_done : (ts us : List Term) (i : ℕ) (m : List (Option TermMeaning)) → length ts ≤ i → length us ≤ i
      → match_terms n (b + e) (raised (drop i ts)) (term.list_meaning (drop i us)) m ≡ Some m
  terms_done ts us i m h l = λ j. match_terms n (b + e) (raised (drop_all i ts h j)) (term.list_meaning (drop_all i us l j)) m

-- ---- formulas

pub as_written : (n b : ℕ) (t u : TermMeaning) (m : List (Option TermMeaning))
    → match_term n (b + 0) (shift_term b 0 t) u m ≡ match_term n b t u m
as_written n b t u m = λ i. match_term n (add-zero b i) (shift_none_term b t i) u m

terms_stay : (b : ℕ) (ts : Terms) → replace_terms (raise b 0) ts ≡ ts
terms_stay b nil = refl
terms_stay b (cons t ts) = λ i. cons (shift_none_term b t i) (terms_stay b ts i)

pub all_as_written : (n b : ℕ) (ts us : Terms) (m : List (Option TermMeaning))
    → match_terms n (b + 0) (replace_terms (raise b 0) ts) us m ≡ match_terms n b ts us m
all_as_written n b ts us m = λ i. match_terms n (add-zero b i) (terms_stay b ts i) us m

module _ (n b : ℕ) where
  pub matched_True : (m : List (Option TermMeaning)) → match_formula n b (meaning made.True) (meaning made.True) m ≡ Some m
  matched_True m = λ i. match_formula n b (meaning_True i) (meaning_True i) m

  pub matched_False : (m : List (Option TermMeaning)) → match_formula n b (meaning made.False) (meaning made.False) m ≡ Some m
  matched_False m = λ i. match_formula n b (meaning_False i) (meaning_False i) m

  pub matched_Pred : (p q : List ℕ) (ts us : ArcSlice Term Global) (m : List (Option TermMeaning))
      → match_formula n b (meaning (made.Pred p ts)) (meaning (made.Pred q us)) m
      ≡ (if is_name p q then match_terms n b (term.list_meaning (arc_slice_items ts)) (term.list_meaning (arc_slice_items us)) m else None)
  matched_Pred p q ts us m = λ i. match_formula n b (meaning_Pred p ts i) (meaning_Pred q us i) m

  pub matched_Eq : (s r : List ℕ) (t u v w : Term) (m : List (Option TermMeaning))
      → match_formula n b (meaning (made.Eq s t u)) (meaning (made.Eq r v w)) m
      ≡ (if is_name s r then and_then (match_term n b (term.meaning t) (term.meaning v) m)
      (λ k. match_term n b (term.meaning u) (term.meaning w) k) else None)
  matched_Eq s r t u v w m = λ i. match_formula n b (meaning_Eq s t u i) (meaning_Eq r v w i) m

  pub matched_And : (x y v w : Arc Formula Global) (m : List (Option TermMeaning))
      → match_formula n b (meaning (made.And x y)) (meaning (made.And v w)) m
      ≡ and_then (match_formula n b (meaning (arc_value x)) (meaning (arc_value v)) m)
      (λ k. match_formula n b (meaning (arc_value y)) (meaning (arc_value w)) k)
  matched_And x y v w m = λ i. match_formula n b (meaning_And x y i) (meaning_And v w i) m

  pub matched_Or : (x y v w : Arc Formula Global) (m : List (Option TermMeaning))
      → match_formula n b (meaning (made.Or x y)) (meaning (made.Or v w)) m
      ≡ and_then (match_formula n b (meaning (arc_value x)) (meaning (arc_value v)) m)
      (λ k. match_formula n b (meaning (arc_value y)) (meaning (arc_value w)) k)
  matched_Or x y v w m = λ i. match_formula n b (meaning_Or x y i) (meaning_Or v w i) m

  pub matched_Imp : (x y v w : Arc Formula Global) (m : List (Option TermMeaning))
      → match_formula n b (meaning (made.Imp x y)) (meaning (made.Imp v w)) m
      ≡ and_then (match_formula n b (meaning (arc_value x)) (meaning (arc_value v)) m)
      (λ k. match_formula n b (meaning (arc_value y)) (meaning (arc_value w)) k)
  matched_Imp x y v w m = λ i. match_formula n b (meaning_Imp x y i) (meaning_Imp v w i) m

  pub matched_All : (s z r y : List ℕ) (x v : Arc Formula Global) (m : List (Option TermMeaning))
      → match_formula n b (meaning (made.All s z x)) (meaning (made.All r y v)) m
      ≡ (if is_name s r then match_formula n (suc b) (meaning (arc_value x)) (meaning (arc_value v)) m else None)
  matched_All s z r y x v m = λ i. match_formula n b (meaning_All s z x i) (meaning_All r y v i) m

  pub matched_Ex : (s z r y : List ℕ) (x v : Arc Formula Global) (m : List (Option TermMeaning))
      → match_formula n b (meaning (made.Ex s z x)) (meaning (made.Ex r y v)) m
      ≡ (if is_name s r then match_formula n (suc b) (meaning (arc_value x)) (meaning (arc_value v)) m else None)
  matched_Ex s z r y x v m = λ i. match_formula n b (meaning_Ex s z x i) (meaning_Ex r y v i) m

  differ : (a c : Meaning) (m : List (Option TermMeaning)) → (kind (unnamed a) ≡ kind (unnamed c) → ⊥) → match_formula n b a c m ≡ None
  differ truth truth m h = absurd (h refl)
  differ falsity falsity m h = absurd (h refl)
  differ (pred p ts) (pred q us) m h = absurd (h refl)
  differ (equal s t u) (equal r v w) m h = absurd (h refl)
  differ (both x y) (both v w) m h = absurd (h refl)
  differ (either x y) (either v w) m h = absurd (h refl)
  differ (implies x y) (implies v w) m h = absurd (h refl)
  differ (all s z x) (all r y v) m h = absurd (h refl)
  differ (ex s z x) (ex r y v) m h = absurd (h refl)
  differ a c m h = refl

  -- a formula of another variant is no instance
  pub variants_differ : (k : Kind) (a c : Formula) (m : List (Option TermMeaning)) → kind (unnamed (meaning a)) ≡ k → (IsMade c k → ⊥)
      → None ≡ match_formula n b (meaning a) (meaning c) m
  variants_differ k a c m q h = sym (differ (meaning a) (meaning c) m (λ e. h (made_alike k c c (sym e ∙ q) refl)))

-- under one binder more
pub ruleset bodies = (add-one)

pub ruleset gives = (given_new, given_again, lower_outside, not_outside, told_again)

pub ruleset variables = (same_is, bound_variable, open_variable, free_variable)

pub ruleset terms = (meaning_App, meaning_Var, name_is, name_differs)

pub ruleset formulas = (
  name_is,
  name_differs,
  as_written,
  all_as_written,
  goes_on,
  ends,
  matched_True,
  matched_False,
  matched_Pred,
  matched_Eq,
  matched_And,
  matched_Or,
  matched_Imp,
  matched_All,
  matched_Ex,
)
