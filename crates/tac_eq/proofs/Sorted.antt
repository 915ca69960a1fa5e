-- The terms of an instance that stands in a goal have the sorts of the open variables.
use Rattle.std.proofs.Common.{◌≡◌, ℕ, suc, ◌<◌, true, false, List, [], ◌∷◌, ◌++◌, length, refl, sym, ap, subst, arith}
use Rattle.std.proofs.lemmas.Bool.Decides.{nat_tests}
use Rattle.fol_theory.specs.Syntax.{Term, var, app, Terms, nil, cons, Formula, truth, falsity, pred, equal, both, either, implies, all, ex}
use Rattle.fol_theory.specs.Substitution.{replace_term, shift_term}
use Rattle.match_theory.specs.Instances.{fill, OccursInTerm}
use Rattle.match_theory.specs.Places.{term_places, terms_places, places, IsPlaceInstance, find_instance, occurs_in_term, all_below}
use Rattle.match_theory.proofs.Occurring.{term_occurs, below_all}
use Rattle.match_theory.proofs.Placed.{first_sound}
use Rattle.std.proofs.Common.{Some}
use Rattle.env_theory.specs.Declarations.{Declaration, find}
use Rattle.env_theory.specs.Typing.{At, HasSort, HaveSorts, WellFormed, Fits, takes}
use Rattle.logic_theory.specs.Rules.{Every}
use Rattle.logic_theory.proofs.Trees.{every_back, every_join}
use Rattle.tactic_theory.specs.Refinements.{is_open}
use Rattle.tactic_theory.proofs.Instanced.{not_shifted, fits_filled, put_in_sorts}

-- the term at the place has a sort over variables bound above it and those of V
abbrev Stands : List Declaration → List (List ℕ) → ℕ × Term → Type 0
Stands E V w = (U : List (List ℕ)) × (s : List ℕ) × (length U ≡ w.0) × HasSort E (U ++ V) w.1 s

module _ (E : List Declaration) (V : List (List ℕ)) where
  mutual
    term_stands : (U : List (List ℕ)) (b : ℕ) (t : Term) (s : List ℕ) → length U ≡ b → HasSort E (U ++ V) t s
        → Every (Stands E V) (term_places b t)
    term_stands U b (var i) s e p = ((U, s, e, p), tt)
    term_stands U b (app f ts) s e p = ((U, s, e, p), terms_stand U b ts (takes (find E f)) e p.1)

    terms_stand : (U : List (List ℕ)) (b : ℕ) (ts : Terms) (ss : List (List ℕ)) → length U ≡ b → HaveSorts E (U ++ V) ts ss
        → Every (Stands E V) (terms_places b ts)
    terms_stand U b nil ss e p = tt
    terms_stand U b (cons t ts) [] e p = absurd p
    terms_stand U b (cons t ts) (s ∷ ss) e p = every_join (Stands E V) (term_places b t) (terms_places b ts)
        (term_stands U b t s e p.0) (terms_stand U b ts ss e p.1)

  all_stand : (U : List (List ℕ)) (b : ℕ) (a : Formula) → length U ≡ b → WellFormed E (U ++ V) a → Every (Stands E V) (places b a)
  all_stand U b truth e p = tt
  all_stand U b falsity e p = tt
  all_stand U b (pred n ts) e p = terms_stand U b ts (takes (find E n)) e p.1
  all_stand U b (equal s t u) e p =
      every_join (Stands E V) (term_places b t) (term_places b u) (term_stands U b t s e p.1) (term_stands U b u s e p.2)
  all_stand U b (both a c) e p = every_join (Stands E V) (places b a) (places b c) (all_stand U b a e p.0) (all_stand U b c e p.1)
  all_stand U b (either a c) e p = every_join (Stands E V) (places b a) (places b c) (all_stand U b a e p.0) (all_stand U b c e p.1)
  all_stand U b (implies a c) e p = every_join (Stands E V) (places b a) (places b c) (all_stand U b a e p.0) (all_stand U b c e p.1)
  all_stand U b (all s x a) e p = all_stand (s ∷ U) (suc b) a (ap suc e) p.1
  all_stand U b (ex s x a) e p = all_stand (s ∷ U) (suc b) a (ap suc e) p.1

  -- the instance at a place has a sort over V alone
  instance_sorted : (n : ℕ) (p : Term) (ts : List Term) (w : ℕ × Term) → Stands E V w → IsPlaceInstance n p w ts
      → (s : List ℕ) × HasSort E V (replace_term (fill ts) p) s
  instance_sorted n p ts w k m = (
    k.1,
    not_shifted E k.0 V (replace_term (fill ts) p) k.1
        (subst (λ b. HasSort E (k.0 ++ V) (shift_term 0 b (replace_term (fill ts) p)) k.1) (sym k.2)
        (subst (λ z. HasSort E (k.0 ++ V) z k.1) (sym m.1) k.3)),
  )

  -- an open variable has a term of its sort, where it occurs in a pattern that isn't one alone
  open_sorted : (n : ℕ) (W : List (List ℕ)) (ts : List Term) (i : ℕ) (r : List ℕ) → i < n → At W i r → (p : Term) (q s : List ℕ)
      → is_open n p ≡ false → HasSort E W p q → HasSort E V (replace_term (fill ts) p) s → OccursInTerm i p → HasSort E V (fill ts i) r
  open_sorted n W ts i r h a (var j) q s b x y o = absurd (outside (subst (λ k. k < n) o h))
    where
      outside : j < n → ⊥
      outside k = grind (arith, nat_tests, b)
  open_sorted n W ts i r h a (app m us) q s b x y o = put_in_sorts E (fill ts) V W i r a us (takes (find E m)) x.1 y.1 o

  -- the terms that were found fit
  pub found_fit : (W : List (List ℕ)) (p : Term) (q : List ℕ) (g : Formula) → WellFormed E V g → HasSort E (W ++ V) p q → (ts : List Term)
      → find_instance (length W) p g ≡ Some ts → is_open (length W) p ≡ false → all_below (length W) (λ i. occurs_in_term i p) ≡ true
      → (length ts ≡ length W) × Fits E (fill ts) (W ++ V) V
  found_fit W p q g w x ts e b o =
      let n : ℕ = length W in
      let m = first_sound n p (places 0 g) ts e in
      let all_sorted : Every (Stands E V) (m.before ++ m.place ∷ m.behind) =
      subst (Every (Stands E V)) m.whole (all_stand [] 0 g refl w) in
      let at = (every_back (Stands E V) m.before (m.place ∷ m.behind) all_sorted).0 in
      let k = instance_sorted n p ts m.place at m.is in (
        m.is.0,
        fits_filled E W V ts m.is.0 (λ i r h a. open_sorted n (W ++ V) ts i r h a p q k.0 b x k.1
            (term_occurs i p (below_all n (λ j. occurs_in_term j p) o i h))),
      )
