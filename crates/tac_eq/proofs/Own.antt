-- The refinements of this crate, run.
use Rattle.std.proofs.Common.{◌≡◌, List, [], ◌∷◌, Some, refl, sym, ap, ◌∙◌}
use Rattle.std.specs.Prelude.{slice_get}
use Rattle.env_theory.specs.Declarations.{Declaration}
use Rattle.logic_theory.specs.Goals.{Goal}
use Rattle.vern_sentence.specs.Trees as sentence
use Rattle.tactic_theory.specs.Typing.{typed}
use Rattle.script_theory.specs.Sizes.{large}
use Rattle.tactic_theory.specs.States.{State, refined, typed_then, inner_of, by_refinement, run_one}
use Rattle.tac_eq.specs.Own.{IsOfEquality}

inner_is : (x : sentence.Refinement) → IsOfEquality x → inner_of x ≡ by_refinement x
inner_is (sentence.intro x) h = absurd h
inner_is (sentence.intros xs) h = absurd h
inner_is (sentence.exact a) h = absurd h
inner_is sentence.by_hypothesis h = absurd h
inner_is (sentence.apply a) h = absurd h
inner_is sentence.split h = absurd h
inner_is sentence.left h = absurd h
inner_is sentence.right h = absurd h
inner_is (sentence.exists a) h = absurd h
inner_is (sentence.destruct_both a x y) h = absurd h
inner_is (sentence.destruct_either a x y) h = absurd h
inner_is (sentence.destruct_none a) h = absurd h
inner_is sentence.exfalso h = absurd h
inner_is (sentence.assert x a) h = absurd h
inner_is (sentence.clear x) h = absurd h
inner_is sentence.reflexivity h = refl
inner_is sentence.symmetry h = refl
inner_is (sentence.rewrite a back) h = refl
inner_is (sentence.unfold_in d i) h = refl

module _ (E : List Declaration) (x : sentence.Refinement) (own : IsOfEquality x) (s : State) where
  -- the refinement of the first focused goal
  pub first_focused : (F : List Declaration) (g : Goal) (gs : List Goal) → F ≡ E → s.focused ≡ g ∷ gs
      → refined gs s.frames (typed_then (large F) F g (typed F g x)) ≡ run_one (large E) (typed E) E (inner_of x) s
  first_focused F g gs k e = ap (λ z. refined gs s.frames (typed_then (large z) z g (typed z g x))) k
      ∙ sym (ap (λ gs. run_one (large E) (typed E) E (by_refinement x) (record s { focused = gs })) e)
      ∙ sym (ap (λ t. run_one (large E) (typed E) E t s) (inner_is x own))

-- the first of some goals
pub first_goal : (gs : List Goal) (g h : Goal) → Some g ≡ slice_get gs 0 → h ≡ g → (hs : List Goal) × (gs ≡ h ∷ hs)
first_goal [] g h e k = absurd cc
first_goal (f ∷ gs) g h e k = let same : g ≡ f = cc in (gs, ap (λ z. z ∷ gs) (sym (k ∙ same)))
