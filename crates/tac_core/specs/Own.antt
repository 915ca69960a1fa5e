-- The refinements of this crate.
use Rattle.vern_sentence.specs.Trees.{
  Refinement,
  intro,
  intros,
  exact,
  by_hypothesis,
  apply,
  split,
  left,
  right,
  exists,
  destruct_both,
  destruct_either,
  destruct_none,
  exfalso,
  assert,
  clear,
  reflexivity,
  symmetry,
  rewrite,
  unfold_in,
}

-- it is neither of equality nor an unfolding
abbrev pub IsLogical : Refinement → Type 0
IsLogical (intro x) = Unit {0}
IsLogical (intros xs) = Unit {0}
IsLogical (exact a) = Unit {0}
IsLogical by_hypothesis = Unit {0}
IsLogical (apply a) = Unit {0}
IsLogical split = Unit {0}
IsLogical left = Unit {0}
IsLogical right = Unit {0}
IsLogical (exists a) = Unit {0}
IsLogical (destruct_both a x y) = Unit {0}
IsLogical (destruct_either a x y) = Unit {0}
IsLogical (destruct_none a) = Unit {0}
IsLogical exfalso = Unit {0}
IsLogical (assert x a) = Unit {0}
IsLogical (clear x) = Unit {0}
IsLogical reflexivity = ⊥
IsLogical symmetry = ⊥
IsLogical (rewrite a back) = ⊥
IsLogical (unfold_in d h) = ⊥
