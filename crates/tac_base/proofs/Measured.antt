-- What is told of formulas that are too large.
use Rattle.std.proofs.Common.{◌≡◌, ℕ, suc, ◌+◌, ◌<◌, ◌^◌, true, false, if◌then◌else◌, List, ◌∷◌, min, length, drop, get_or, map, Option, Some, None, ◌⊎◌, inl, inr, sym, ap, subst, ◌∙◌, arith}
use Rattle.std.proofs.lemmas.Bool.Decides.{nat_tests}
use Rattle.std.proofs.Math.Seq.{drop-cons}
use Rattle.fol_theory.specs.Syntax.{Formula}
use Rattle.env_theory.specs.Declarations.{Declaration}
use Rattle.logic_theory.specs.Rules.{Every}
use Rattle.match_theory.specs.Places.{or_else}
use Rattle.tactic_theory.specs.Refinements.{first_large}
use Rattle.script_theory.specs.Sizes.{passes, measured}
use Rattle.tac_base.specs.Openings.{IsFormula}

passes_true : (n h x y : ℕ) → x ≡ min n (2 ^ 32) → y ≡ min h (2 ^ 32) → (65536 < x) ⊎ (1024 < y) → passes n h ≡ true
passes_true n h x y e k (inl l) = let m : 65536 < n = omega (arith, e, l) in grind (arith, nat_tests)
passes_true n h x y e k (inr l) = let m : 1024 < h = omega (arith, k, l) in grind (arith, nat_tests)

passes_false : (n h x y : ℕ) → x ≡ min n (2 ^ 32) → y ≡ min h (2 ^ 32) → ((65536 < x) ⊎ (1024 < y) → ⊥) → passes n h ≡ false
passes_false n h x y e k l = grind (arith, nat_tests)

-- what passes a limit is told
pub measured_large : (n h x y : ℕ) (o : Option (ℕ × ℕ)) → x ≡ min n (2 ^ 32) → y ≡ min h (2 ^ 32) → (65536 < x) ⊎ (1024 < y)
    → measured n h o ≡ Some (x, y)
measured_large n h x y o e k l = ap (λ t. if t then Some (min n 4294967296, min h 4294967296) else o) (passes_true n h x y e k l)
    ∙ (λ i. Some (sym e i, sym k i))

pub measured_other : (n h x y : ℕ) (o : Option (ℕ × ℕ)) → x ≡ min n (2 ^ 32) → y ≡ min h (2 ^ 32)
    → ((65536 < x) ⊎ (1024 < y) → ⊥) → measured n h o ≡ o
measured_other n h x y o e k l = ap (λ t. if t then Some (min n 4294967296, min h 4294967296) else o) (passes_false n h x y e k l)

pub ruleset sizes = (measured_large, measured_other)

-- ---- formulas one after another

module _ {A : Type 0} (f : A → Formula) (xs : List A) (i : ℕ) (x : A) (h : i < length xs) (e : x ≡ get_or xs i x) where
  front : map f (drop i xs) ≡ f x ∷ map f (drop (i + 1) xs)
  front =
      let more : suc i ≡ i + 1 = omega arith in
      ap (map f) (drop-cons xs i x h) ∙ ap (λ y. f y ∷ map f (drop (suc i) xs)) (sym e) ∙ ap (λ j. f x ∷ map f (drop j xs)) more

  -- the first and the others
  pub first_formed : (E : List Declaration) → Every (IsFormula E) (map f (drop i xs))
      → IsFormula E (f x) × Every (IsFormula E) (map f (drop (i + 1) xs))
  first_formed E k = subst (Every (IsFormula E)) front k

  pub first_found : (large : Formula → Option (ℕ × ℕ)) (w : ℕ × ℕ) → Some w ≡ large (f x)
      → first_large large (map f xs) ≡ first_large large (map f (drop i xs)) → Some w ≡ first_large large (map f xs)
  first_found large w k s = ap (λ o. or_else o (first_large large (map f (drop (i + 1) xs)))) k ∙ sym (s ∙ ap (first_large large) front)

  pub none_found : (large : Formula → Option (ℕ × ℕ)) → None ≡ large (f x)
      → first_large large (map f xs) ≡ first_large large (map f (drop i xs))
      → first_large large (map f xs) ≡ first_large large (map f (drop (i + 1) xs))
  none_found large k s = s ∙ ap (first_large large) front
      ∙ ap (λ o. or_else o (first_large large (map f (drop (i + 1) xs)))) (sym k)
