-- apply and rewrite follow the kernel's rules.
use Rattle.env_theory.proofs.Sameness.{same_replace, alike_same}
use Rattle.env_theory.proofs.Sorts.{replace_sort, fits_next}
use Rattle.logic_theory.specs.Goals.{Goal, goal, Leads}
use Rattle.fol_theory.specs.Slots.{Slot, entries}
use Rattle.env_theory.specs.Orders.{Lawful}
use Rattle.env_theory.specs.Heads.{head_form}
use Rattle.env_theory.specs.Normal.{normal, Same}
use Rattle.env_theory.specs.Typing.{At, HasSort, HaveSorts, WellFormed, Fits}
use Rattle.env_theory.specs.Declarations.{Declaration}
use Rattle.std.proofs.Common.{
  ◌≡◌,
  ℕ,
  zero,
  suc,
  ◌+◌,
  ◌<◌,
  Bool,
  true,
  false,
  ◌&&◌,
  not,
  if◌then◌else◌,
  List,
  [],
  ◌∷◌,
  ◌++◌,
  map,
  length,
  Option,
  Some,
  None,
  Result,
  Ok,
  Err,
  Decides,
  refl,
  sym,
  ap,
  subst,
  ◌∙◌,
  arith,
}
use Rattle.std.proofs.lemmas.Bool.Decides.{nat_tests}
use Rattle.fol_theory.specs.Syntax.{Term, var, app, Terms, nil, cons, Formula, truth, falsity, pred, equal, both, either, implies, all, ex}
use Rattle.fol_theory.specs.Substitution.{replace_term, replace, next, first, instantiate, shift_term, raise}
use Rattle.fol_theory.specs.Contexts.{variables}
use Rattle.fol_theory.specs.Printing.{unnamed}
use Rattle.fol_theory.proofs.Laws.{term_undo}
use Rattle.fol_theory.proofs.AtIndex.{raise_large}
use Rattle.match_theory.specs.Instances.{fill, OccursInTerm}
use Rattle.match_theory.specs.Matching.{same_term}
use Rattle.match_theory.specs.Places.{
  term_places,
  terms_places,
  places,
  IsPlaceInstance,
  IsFirst,
  find_instance,
  beyond,
  abstract_term,
  abstract_terms,
  abstracted,
  occurs_in_term,
  occurs,
  all_below,
}
use Rattle.match_theory.proofs.Equal.{term_decides}
use Rattle.match_theory.proofs.Matched.{lowers_filled}
use Rattle.match_theory.proofs.Occurring.{term_occurs, formula_occurs, below_all}
use Rattle.env_theory.specs.Declarations.{find}
use Rattle.env_theory.specs.Typing.{takes}
use Rattle.match_theory.proofs.Placed.{first_sound, abstracted_back}
use Rattle.logic_theory.specs.Rules.{Every, eq_i, eq_e, seq, FormedContext}
use Rattle.logic_theory.proofs.Trees.{every_back, every_join}
use Rattle.logic_theory.proofs.Leading.{left_open, by_rule}
use Rattle.base_core.specs.Answers.{and_then}
use Rattle.tactic_theory.specs.Faults.{Fault}
use Rattle.tactic_theory.specs.Evidence.{Evidence, shows, is_met, IsTyped}
use Rattle.tactic_theory.specs.Strips.{Strip, strip, all_strips, FitsGoal, fitting, equation, Stripped, unstripped}
use Rattle.tactic_theory.specs.Refinements.{
  Part,
  part,
  opened,
  if_met,
  premise_parts,
  apply_found,
  is_open,
  rewrite_found,
  rewrite_form,
  rewrite_strip,
}
use Rattle.tactic_theory.proofs.Found.{sort_declared}
use Rattle.tactic_theory.proofs.Shown.{ok_injective, both_true, Shown, shown}
use Rattle.tactic_theory.proofs.Instanced.{sort_once, not_shifted, fits_filled, fits_instance, put_in_sorts}
use Rattle.tactic_theory.proofs.Stripped.{
  strips_stripped,
  fitting_stripped,
  fitting_least,
  equation_stripped,
  stripped_formed,
  premise_goals,
  strip_leads,
}

premise_parts_goals : (c : List Slot) (ts : List Term) (ps : List Formula) → map opened (premise_parts c ts ps) ≡ premise_goals
    c (fill ts) ps
premise_parts_goals c ts [] = refl
premise_parts_goals c ts (p ∷ ps) = ap (λ l. goal c (replace (fill ts) p) ∷ l) (premise_parts_goals c ts ps)

-- ---- the places of a formula have sorts

-- the term at the place is over variables bound above it and those of V
abbrev PlaceSorted : List Declaration → List (List ℕ) → ℕ × Term → Type 0
PlaceSorted E V w = (U : List (List ℕ)) × (s : List ℕ) × (length U ≡ w.0) × HasSort E (U ++ V) w.1 s

mutual
  term_places_sorted : (E : List Declaration) (U V : List (List ℕ)) (b : ℕ) (t : Term) (s : List ℕ) → length U ≡ b →
      HasSort E (U ++ V) t s → Every (PlaceSorted E V) (term_places b t)
  term_places_sorted E U V b (var i) s e p = ((U, s, e, p), tt)
  term_places_sorted E U V b (app f ts) s e p = ((U, s, e, p), terms_places_sorted E U V b ts (takes (find E f)) e p.1)

  terms_places_sorted : (E : List Declaration) (U V : List (List ℕ)) (b : ℕ) (ts : Terms) (ss : List (List ℕ)) → length U ≡ b →
      HaveSorts E (U ++ V) ts ss → Every (PlaceSorted E V) (terms_places b ts)
  terms_places_sorted E U V b nil ss e p = tt
  terms_places_sorted E U V b (cons t ts) [] e p = absurd p
  terms_places_sorted E U V b (cons t ts) (s ∷ ss) e p = every_join (PlaceSorted E V) (term_places b t) (terms_places b ts)
      (term_places_sorted E U V b t s e p.0) (terms_places_sorted E U V b ts ss e p.1)

places_sorted : (E : List Declaration) (U V : List (List ℕ)) (b : ℕ) (a : Formula) → length U ≡ b → WellFormed E (U ++ V) a →
    Every (PlaceSorted E V) (places b a)
places_sorted E U V b truth e p = tt
places_sorted E U V b falsity e p = tt
places_sorted E U V b (pred n ts) e p = terms_places_sorted E U V b ts (takes (find E n)) e p.1
places_sorted E U V b (equal s t u) e p = every_join (PlaceSorted E V) (term_places b t) (term_places b u)
    (term_places_sorted E U V b t s e p.1) (term_places_sorted E U V b u s e p.2)
places_sorted E U V b (both a c) e p = every_join (PlaceSorted E V) (places b a) (places b c) (places_sorted E U V b a e p.0)
    (places_sorted E U V b c e p.1)
places_sorted E U V b (either a c) e p = every_join (PlaceSorted E V) (places b a) (places b c) (places_sorted E U V b a e p.0)
    (places_sorted E U V b c e p.1)
places_sorted E U V b (implies a c) e p = every_join (PlaceSorted E V) (places b a) (places b c) (places_sorted E U V b a e p.0)
    (places_sorted E U V b c e p.1)
places_sorted E U V b (all s x a) e p = places_sorted E (s ∷ U) V (suc b) a (ap suc e) p.1
places_sorted E U V b (ex s x a) e p = places_sorted E (s ∷ U) V (suc b) a (ap suc e) p.1

-- the instance at a place has a sort over V alone
instance_sort : (E : List Declaration) (V : List (List ℕ)) (n : ℕ) (p : Term) (ts : List Term) (w : ℕ × Term) →
    PlaceSorted E V w → IsPlaceInstance n p w ts → (s : List ℕ) × HasSort E V (replace_term (fill ts) p) s
instance_sort E V n p ts w k m = (
  k.1,
  not_shifted E k.0 V (replace_term (fill ts) p) k.1
      (subst (λ b. HasSort E (k.0 ++ V) (shift_term 0 b (replace_term (fill ts) p)) k.1) (sym k.2)
      (subst (λ z. HasSort E (k.0 ++ V) z k.1) (sym m.1) k.3)),
)

-- ---- abstracting keeps sorts

at_inserted : (U V : List (List ℕ)) (q : List ℕ) (i : ℕ) (s : List ℕ) → At (U ++ V) i s → At (U ++ q ∷ V) (beyond (length U) i) s
at_inserted [] V q i s p = subst (λ j. At (q ∷ V) j s) (more i) p
  where
    more : (i : ℕ) → suc i ≡ beyond 0 i
    more i = grind (arith, nat_tests)
at_inserted (u ∷ U) V q zero s p = subst (λ j. At (u ∷ (U ++ q ∷ V)) j s) (more (length U)) p
  where
    more : (n : ℕ) → zero ≡ beyond (suc n) zero
    more n = grind (arith, nat_tests)
at_inserted (u ∷ U) V q (suc i) s p = subst (λ j. At (u ∷ (U ++ q ∷ V)) j s) (more i (length U)) (at_inserted U V q i s p)
  where
    more : (i n : ℕ) → suc (beyond n i) ≡ beyond (suc n) (suc i)
    more i n = grind (arith, nat_tests)

at_itself : (U V : List (List ℕ)) (q : List ℕ) → At (U ++ q ∷ V) (length U) q
at_itself [] V q = refl
at_itself (u ∷ U) V q = at_itself U V q

shifted_sort : (E : List Declaration) (U V : List (List ℕ)) (w : Term) (q : List ℕ) → HasSort E V w q →
    HasSort E (U ++ V) (shift_term 0 (length U) w) q
shifted_sort E U V w q h = replace_sort E (raise 0 (length U)) V (U ++ V) (λ i s p. subst (λ z. HasSort E (U ++ V) z s)
    (sym (raise_large 0 (length U) i (omega arith))) (at_more U V i s p)) w q h
  where
    at_more : (U V : List (List ℕ)) (i : ℕ) (s : List ℕ) → At V i s → At (U ++ V) (i + length U) s
    at_more [] V i s p = subst (λ j. At V j s) (same i) p
      where
        same : (i : ℕ) → i ≡ i + 0
        same i = omega arith
    at_more (u ∷ U) V i s p = subst (λ j. At (u ∷ (U ++ V)) j s) (one i (length U)) (at_more U V i s p)
      where
        one : (i n : ℕ) → suc (i + n) ≡ i + suc n
        one i n = omega arith

module _ (E : List Declaration) (l : Lawful E) (V : List (List ℕ)) (w : Term) (q : List ℕ) (h : HasSort E V w q) where
  abstract_here : (U : List (List ℕ)) (t u : Term) (s : List ℕ) (r : Bool) → Decides r (t ≡ shift_term 0 (length U) w) →
      HasSort E (U ++ V) t s → HasSort E (U ++ q ∷ V) u s → HasSort E (U ++ q ∷ V) (if r then var (length U) else u) s
  abstract_here U t u s true d p k = subst (At (U ++ q ∷ V) (length U))
      (sort_once E l (U ++ V) t q s (subst (λ z. HasSort E (U ++ V) z q) (sym (d.0 refl)) (shifted_sort E U V w q h)) p) (at_itself U V q)
  abstract_here U t u s false d p k = k

  mutual
    abstract_sort : (U : List (List ℕ)) (t : Term) (s : List ℕ) → HasSort E (U ++ V) t s →
        HasSort E (U ++ q ∷ V) (abstract_term (length U) w t) s
    abstract_sort U (var i) s p = abstract_here U (var i) (var (beyond (length U) i)) s
        (same_term (var i) (shift_term 0 (length U) w)) (term_decides (var i) (shift_term 0 (length U) w)) p (at_inserted U V q i s p)
    abstract_sort U (app f ts) s p = abstract_here U (app f ts) (app f (abstract_terms (length U) w ts)) s
        (same_term (app f ts) (shift_term 0 (length U) w)) (term_decides (app f ts) (shift_term 0 (length U) w)) p (
          p.0,
          abstract_sorts U ts (takes (find E f)) p.1,
        )

    abstract_sorts : (U : List (List ℕ)) (ts : Terms) (ss : List (List ℕ)) → HaveSorts E (U ++ V) ts ss →
        HaveSorts E (U ++ q ∷ V) (abstract_terms (length U) w ts) ss
    abstract_sorts U nil [] p = tt
    abstract_sorts U nil (s ∷ ss) p = absurd p
    abstract_sorts U (cons t ts) [] p = absurd p
    abstract_sorts U (cons t ts) (s ∷ ss) p = (abstract_sort U t s p.0, abstract_sorts U ts ss p.1)

  abstracted_formed : (U : List (List ℕ)) (a : Formula) → WellFormed E (U ++ V) a → WellFormed E (U ++ q ∷ V) (abstracted (length U) w a)
  abstracted_formed U truth p = tt
  abstracted_formed U falsity p = tt
  abstracted_formed U (pred n ts) p = (p.0, abstract_sorts U ts (takes (find E n)) p.1)
  abstracted_formed U (equal s t u) p = (p.0, abstract_sort U t s p.1, abstract_sort U u s p.2)
  abstracted_formed U (both a c) p = (abstracted_formed U a p.0, abstracted_formed U c p.1)
  abstracted_formed U (either a c) p = (abstracted_formed U a p.0, abstracted_formed U c p.1)
  abstracted_formed U (implies a c) p = (abstracted_formed U a p.0, abstracted_formed U c p.1)
  abstracted_formed U (all s x a) p = (p.0, abstracted_formed (s ∷ U) a p.1)
  abstracted_formed U (ex s x a) p = (p.0, abstracted_formed (s ∷ U) a p.1)

-- ---- the two rows

module _ (E : List Declaration) (l : Lawful E) (c : List Slot) (g : Formula) (f : FormedContext E (entries c))
    (w : WellFormed E (variables (entries c)) g) where
  -- a tree leads from g to the parts
  abbrev Reaches : List Part → Type 0
  Reaches ps = Leads E (seq (entries c) g ∷ []) (map opened ps)

  -- what is left with the terms put in is the same as the goal
  fits_same : (s : Strip) (ts : List Term) → WellFormed E (s.sorts ++ variables (entries c)) s.rest → FitsGoal E g s ts →
      Same E (replace (fill ts) s.rest) g
  fits_same s ts m k =
      sym (same_replace E (fill ts) (normal E s.rest) s.rest (l.normal_same s.rest))
      ∙ alike_same E (replace (fill ts) (normal E s.rest)) (normal E g) k.1
      ∙ l.normal_same g

  apply_leads : (a : Formula) → Shown E c a → (s : Strip) (ts : List Term) → Stripped E a s → FitsGoal E g s ts →
      all_below (length s.sorts) (λ i. occurs i (normal E s.rest)) ≡ true → Reaches (premise_parts c ts s.premises)
  apply_leads a k s ts st fit o =
      let V : List (List ℕ) = variables (entries c) in
      let m = stripped_formed E l V a s k.0 st in
      let fits : Fits E (fill ts) (s.sorts ++ V) V = fits_instance E s.sorts V ts (normal E s.rest) (normal E g) fit
      (l.normal_formed (s.sorts ++ V) s.rest m) (l.normal_formed V g w) (λ i h. formula_occurs i (normal E s.rest)
      (below_all (length s.sorts) (λ j. occurs j (normal E s.rest)) o i h)) in
      subst (Leads E (seq (entries c) g ∷ [])) (sym (premise_parts_goals c ts s.premises))
      (strip_leads E l c a k.0 k.1 s st (fill ts) (lowers_filled (length s.sorts) ts fit.0) fits g (fits_same s ts m fit))

  pub apply_to : (e : Evidence) → IsTyped E c e → (ps : List Part) →
      and_then (shows E c e) (λ a. apply_found E c (is_met E c e) (fitting E g (all_strips E a))) ≡ Ok ps → Reaches ps
  apply_to e y ps d = go (shows E c e) refl d
    where
      found : (a : Formula) → shows E c e ≡ Ok a → (o : Option (Strip × List Term)) → fitting E g (all_strips E a) ≡ o →
          apply_found E c (is_met E c e) o ≡ Ok ps → Reaches ps
      found a q None r d = absurd cc
      found a q (Some (s, ts)) r d = met (is_met E c e && all_below (length s.sorts) (λ i. occurs i (normal E s.rest))) refl d
        where
          met : (v : Bool) → (is_met E c e && all_below (length s.sorts) (λ i. occurs i (normal E s.rest))) ≡ v →
              if_met v (premise_parts c ts s.premises) ≡ Ok ps → Reaches ps
          met false p d = absurd cc
          met true p d =
              let b = both_true (is_met E c e) (all_below (length s.sorts) (λ i. occurs i (normal E s.rest))) p in
              let x = fitting_least E g (all_strips E a) (s, ts) r in
              subst Reaches (ok_injective (premise_parts c ts s.premises) ps d)
              (apply_leads a (shown E l c f e y b.0 a q) s ts (fitting_stripped E a g (all_strips E a)
              (strips_stripped _ E a (strip [] [] a) unstripped) (s, ts) r) x.is b.1)

      go : (o : Result Formula Fault) → shows E c e ≡ o →
          and_then o (λ a. apply_found E c (is_met E c e) (fitting E g (all_strips E a))) ≡ Ok ps → Reaches ps
      go (Err z) q d = absurd cc
      go (Ok a) q d = found a q (fitting E g (all_strips E a)) refl d

  -- the open variable i, of sort r, under n in W, with σ for the open ones
  module _ (n : ℕ) (W : List (List ℕ)) (σ : ℕ → Term) (i : ℕ) (r : List ℕ) (h : i < n) (a : At W i r) where
    -- where it occurs in a pattern other than an open variable
    open_sort : (p : Term) (q s : List ℕ) → is_open n p ≡ false → HasSort E W p q → HasSort E (variables (entries c)) (replace_term σ p) s →
        OccursInTerm i p → HasSort E (variables (entries c)) (σ i) r
    open_sort (var j) q s b x y o = absurd (outside (subst (λ k. k < n) o h))
      where
        outside : j < n → ⊥
        outside k = grind (arith, nat_tests, b)
    open_sort (app m ts) q s b x y o = put_in_sorts E σ (variables (entries c)) W i r a ts (takes (find E m)) x.1 y.1 o

  not_true : (b : Bool) → not b ≡ true → b ≡ false
  not_true true e = absurd cc
  not_true false e = refl

  -- the left and right side of a strip's equation, either way round
  module _ (s : Strip) (p o : Term) (q : List ℕ) where
    -- an equation whose left side is the pattern, with a tree for its instance
    rewrite_leads : (ts : List Term) (hs : List Goal) → IsFirst (length s.sorts) p (places 0 g) ts → is_open (length s.sorts) p ≡ false
        → all_below (length s.sorts) (λ i. occurs_in_term i p) ≡ true
        → HasSort E (s.sorts ++ variables (entries c)) p q → HasSort E (s.sorts ++ variables (entries c)) o q
        → (Fits E (fill ts) (s.sorts ++ variables (entries c)) (variables (entries c)) →
        Leads E (seq (entries c) (equal q (replace_term (fill ts) p) (replace_term (fill ts) o)) ∷ []) hs)
        → Leads E (seq (entries c) g ∷ [])
        (goal c (instantiate (abstracted 0 (replace_term (fill ts) p) g) (replace_term (fill ts) o)) ∷ hs)
    rewrite_leads ts hs first b occ x y lead =
        let V : List (List ℕ) = variables (entries c) in
        let W : List (List ℕ) = s.sorts in
        let n : ℕ = length W in
        let P : Term = replace_term (fill ts) p in
        let O : Term = replace_term (fill ts) o in
        let sorted : Every (PlaceSorted E V) (first.before ++ first.place ∷ first.behind) = subst (Every (PlaceSorted E V))
        first.whole (places_sorted E [] V 0 g refl w) in
        let at = (every_back (PlaceSorted E V) first.before (first.place ∷ first.behind) sorted).0 in
        let k = instance_sort E V n p ts first.place at first.is in
        let fits : Fits E (fill ts) (W ++ V) V = fits_filled E W V ts first.is.0 (λ i r h a.
        open_sort n (W ++ V) (fill ts) i r h a p q k.0 b x k.1
        (term_occurs i p (below_all n (λ j. occurs_in_term j p) occ i h))) in
        let sp : HasSort E V P q = replace_sort E (fill ts) (W ++ V) V fits p q x in
        let so : HasSort E V O q = replace_sort E (fill ts) (W ++ V) V fits o q y in
        by_rule (eq_e q (abstracted 0 P g) P O) (entries c) g (
          sort_declared E l (entries c) P q f sp,
          abstracted_formed E l V P q sp [] g w,
          (
            sort_declared E l (entries c) P q f sp,
            sp,
            so,
          ),
          ap (λ z. unnamed (normal E z)) (abstracted_back P g),
        )
        (left_open c (instantiate (abstracted 0 P g) O) (lead fits))

    rewrite_found_to : (met : Bool) →
        (met ≡ true → HasSort E (s.sorts ++ variables (entries c)) p q × HasSort E (s.sorts ++ variables (entries c)) o q)
        → (met ≡ true → (ts : List Term) → length ts ≡ length s.sorts → Fits E (fill ts) (s.sorts ++ variables (entries c))
        (variables (entries c)) → Leads E (seq (entries c) (equal q (replace_term (fill ts) p) (replace_term (fill ts) o))
        ∷ []) (premise_goals c (fill ts) s.premises))
        → (v : Option (List Term)) → find_instance (length s.sorts) p g ≡ v → (ps : List Part) → rewrite_found c met s p o g v
        ≡ Ok ps → Reaches ps
    rewrite_found_to met x lead None r ps d = absurd cc
    rewrite_found_to met x lead (Some ts) r ps d =
        tests (met && (not (is_open (length s.sorts) p) && all_below (length s.sorts) (λ i. occurs_in_term i p))) refl d
      where
        new : Part
        new = part [] c (instantiate (abstracted 0 (replace_term (fill ts) p) g) (replace_term (fill ts) o))

        tests : (v : Bool) → (met && (not (is_open (length s.sorts) p) && all_below (length s.sorts) (λ i. occurs_in_term i p)))
            ≡ v → if_met v (new ∷ premise_parts c ts s.premises) ≡ Ok ps → Reaches ps
        tests false b d = absurd cc
        tests true b d =
            let b1 = both_true met (not (is_open (length s.sorts) p) && all_below (length s.sorts) (λ i. occurs_in_term i p)) b in
            let b2 = both_true (not (is_open (length s.sorts) p)) (all_below (length s.sorts) (λ i. occurs_in_term i p)) b1.1 in
            let first = first_sound (length s.sorts) p (places 0 g) ts r in
            let h = x b1.0 in
            subst Reaches (ok_injective (new ∷ premise_parts c ts s.premises) ps d)
            (subst (λ hs. Leads E (seq (entries c) g ∷ []) (opened new ∷ hs)) (sym (premise_parts_goals c ts s.premises))
            (rewrite_leads ts (premise_goals c (fill ts) s.premises) first
            (not_true (is_open (length s.sorts) p) b2.0) b2.1 h.0 h.1 (lead b1.0 ts first.is.0)))

  -- an equation the other way round
  turned : (q : List ℕ) (t u : Term) (hs : List Goal) → HasSort E (variables (entries c)) t q →
      HasSort E (variables (entries c)) u q → Leads E (seq (entries c) (equal q t u) ∷ []) hs →
      Leads E (seq (entries c) (equal q u t) ∷ []) hs
  turned q t u hs x y k =
      let V : List (List ℕ) = variables (entries c) in
      let B : Formula = equal q (replace_term next u) (var 0) in
      let is : (v : Term) → instantiate B v ≡ equal q u v = λ v i. equal q (term_undo (first v) next (λ j. refl) u i) v in
      by_rule (eq_e q B t u) (entries c) (equal q u t) (
        sort_declared E l (entries c) t q f x,
        (sort_declared E l (entries c) t q f x, replace_sort E next V (q ∷ V) (fits_next E q V) u q y, refl),
        (sort_declared E l (entries c) t q f x, x, y),
        ap (λ z. unnamed (normal E z)) (is t),
      )
      (by_rule (eq_i q u) (entries c) (instantiate B u) (
        sort_declared E l (entries c) t q f x,
        y,
        ap (λ z. unnamed (normal E z)) (sym (is u)),
      ) k)

  -- a formula and one of its strips
  module _ (a : Formula) (s : Strip) (st : Stripped E a s) where
    -- the equation of a strip at an instance
    equation_leads : Shown E c a → (q : List ℕ) (t u : Term) → head_form E s.rest ≡ equal q t u → (ts : List Term) →
        length ts ≡ length s.sorts → Fits E (fill ts) (s.sorts ++ variables (entries c)) (variables (entries c)) →
        Leads E (seq (entries c) (equal q (replace_term (fill ts) t) (replace_term (fill ts) u)) ∷ [])
        (premise_goals c (fill ts) s.premises)
    equation_leads k q t u e ts n fits =
        strip_leads E l c a k.0 k.1 s st (fill ts) (lowers_filled (length s.sorts) ts n) fits (equal q (replace_term (fill ts) t)
        (replace_term (fill ts) u))
        (sym (same_replace E (fill ts) (head_form E s.rest) s.rest (l.head_same s.rest)) ∙
        ap (λ z. unnamed (normal E (replace (fill ts) z))) e)

    equation_formed : Shown E c a → (q : List ℕ) (t u : Term) → head_form E s.rest ≡ equal q t u →
        HasSort E (s.sorts ++ variables (entries c)) t q × HasSort E (s.sorts ++ variables (entries c)) u q
    equation_formed k q t u e =
        let V : List (List ℕ) = variables (entries c) in
        let v = subst (WellFormed E (s.sorts ++ V)) e (l.head_formed (s.sorts ++ V) s.rest (stripped_formed E l V a s k.0 st)) in
        (v.1, v.2)

    rewrite_form_to : (met : Bool) → (met ≡ true → Shown E c a) → (way : Bool) (h : Formula) → head_form E s.rest ≡ h →
        (ps : List Part) → rewrite_form c met way s g h ≡ Ok ps → Reaches ps
    rewrite_form_to met k true (equal q t u) e ps d = rewrite_found_to s t u q met (λ m. equation_formed (k m) q t u e)
        (λ m ts n fits. equation_leads (k m) q t u e ts n fits) (find_instance (length s.sorts) t g) refl ps d
    rewrite_form_to met k false (equal q t u) e ps d =
        let sorts = λ (m : met ≡ true). equation_formed (k m) q t u e in
        rewrite_found_to s u t q met (λ m. ((sorts m).1, (sorts m).0))
        (λ m ts n fits. turned q (replace_term (fill ts) t) (replace_term (fill ts) u) (premise_goals c (fill ts) s.premises)
        (replace_sort E (fill ts) (s.sorts ++ variables (entries c)) (variables (entries c)) fits t q (sorts m).0)
        (replace_sort E (fill ts) (s.sorts ++ variables (entries c)) (variables (entries c)) fits u q (sorts m).1)
        (equation_leads (k m) q t u e ts n fits)) (find_instance (length s.sorts) u g) refl ps d
    rewrite_form_to met k way h e ps d = absurd cc

  pub rewrite_to : (way : Bool) (e : Evidence) → IsTyped E c e → (ps : List Part) →
      and_then (shows E c e) (λ a. rewrite_strip E c (is_met E c e) way g (equation E (all_strips E a))) ≡ Ok ps → Reaches ps
  rewrite_to way e y ps d = go (shows E c e) refl d
    where
      found : (a : Formula) → shows E c e ≡ Ok a → (o : Option Strip) → equation E (all_strips E a) ≡ o →
          rewrite_strip E c (is_met E c e) way g o ≡ Ok ps → Reaches ps
      found a q None r d = absurd cc
      found a q (Some s) r d = rewrite_form_to a s
          (equation_stripped E a (all_strips E a) (strips_stripped _ E a (strip [] [] a) unstripped) s r)
          (is_met E c e) (λ m. shown E l c f e y m a q) way (head_form E s.rest) refl ps d

      go : (o : Result Formula Fault) → shows E c e ≡ o →
          and_then o (λ a. rewrite_strip E c (is_met E c e) way g (equation E (all_strips E a))) ≡ Ok ps → Reaches ps
      go (Err z) q d = absurd cc
      go (Ok a) q d = found a q (equation E (all_strips E a)) refl d
