-- The refinements of this crate.
use Rattle.vern_sentence.specs.Trees.{
  Refinement,
  intro,
  intros,
  exact,
  by_hypothesis,
  apply,
  split,
  left,
  right,
  exists,
  destruct_both,
  destruct_either,
  destruct_none,
  exfalso,
  assert,
  clear,
  reflexivity,
  symmetry,
  rewrite,
  unfold_in,
}

-- it is of equality, or an unfolding
abbrev pub IsOfEquality : Refinement → Type 0
IsOfEquality (intro x) = ⊥
IsOfEquality (intros xs) = ⊥
IsOfEquality (exact a) = ⊥
IsOfEquality by_hypothesis = ⊥
IsOfEquality (apply a) = ⊥
IsOfEquality split = ⊥
IsOfEquality left = ⊥
IsOfEquality right = ⊥
IsOfEquality (exists a) = ⊥
IsOfEquality (destruct_both a x y) = ⊥
IsOfEquality (destruct_either a x y) = ⊥
IsOfEquality (destruct_none a) = ⊥
IsOfEquality exfalso = ⊥
IsOfEquality (assert x a) = ⊥
IsOfEquality (clear x) = ⊥
IsOfEquality reflexivity = Unit {0}
IsOfEquality symmetry = Unit {0}
IsOfEquality (rewrite a back) = Unit {0}
IsOfEquality (unfold_in d h) = Unit {0}
