-- Quantifiers and premises taken off the formula of some evidence; the least number of strips that fits a goal.
use Rattle.env_theory.specs.Heads.{head_form}
use Rattle.env_theory.specs.Normal.{normal}
use Rattle.env_theory.specs.Declarations.{Declaration}
use Rattle.std.specs.Prelude.{◌≡◌, ℕ, zero, suc, Bool, true, false, if◌then◌else◌, List, [], ◌∷◌, ◌++◌, map, length, Option, Some, None}
use Rattle.fol_theory.specs.Syntax.{Term, Formula, equal, implies, all}
use Rattle.fol_theory.specs.Substitution.{under}
use Rattle.fol_theory.specs.Measures.{nodes}
use Rattle.match_theory.specs.Instances.{IsInstance}
use Rattle.match_theory.specs.Matching.{matches}

-- the sorts of the open variables, the newest first; the premises, in order, and the rest, over these variables and then
-- those of the context
pub record Strip : Type 0 where
  pub sorts : List (List ℕ)
  pub premises : List Formula
  pub rest : Formula

-- what is left, from its parts
abbrev pub strip : List (List ℕ) → List Formula → Formula → Strip
strip ss ps a = record { sorts = ss; premises = ps; rest = a }

-- a quantifier's variable becomes open, an implication's left side a premise
abbrev pub strip_form : Strip → Formula → Option Strip
strip_form s (all r x b) = Some (strip (r ∷ s.sorts) (map under s.premises) b)
strip_form s (implies a b) = Some (strip s.sorts (s.premises ++ a ∷ []) b)
strip_form s a = None

-- the list from an element, if there is one
abbrev pub each_from : {A : Type 0} → Option A → (A → List A) → List A
each_from None f = []
each_from (Some x) f = f x

-- a strip, the next one and so on, at most this many more
abbrev pub strips : ℕ → List Declaration → Strip → List Strip
strips zero E s = s ∷ []
strips (suc k) E s = s ∷ each_from (strip_form s (head_form E s.rest)) (λ t. strips k E t)

-- each strip takes a node off the normal form
abbrev pub all_strips : List Declaration → Formula → List Strip
all_strips E a = strips (nodes (normal E a)) E (strip [] [] a)

-- the normal form of what is left, with these terms for its open variables, is that of the goal
abbrev pub FitsGoal : List Declaration → Formula → Strip → List Term → Type 0
FitsGoal E g s ts = IsInstance (length s.sorts) (normal E s.rest) (normal E g) ts

-- the terms with which what is left fits the goal
abbrev pub fitting_terms : List Declaration → Formula → Strip → Option (List Term)
fitting_terms E g s = matches (length s.sorts) (normal E s.rest) (normal E g)

-- this strip where it fits, else what the others give
abbrev pub fitting_or : Strip → Option (List Term) → Option (Strip × List Term) → Option (Strip × List Term)
fitting_or s None y = y
fitting_or s (Some ts) y = Some (s, ts)

-- the first that fits
abbrev pub fitting : List Declaration → Formula → List Strip → Option (Strip × List Term)
fitting E g [] = None
fitting E g (s ∷ ss) = fitting_or s (fitting_terms E g s) (fitting E g ss)

-- none of the strips fits
abbrev pub NoneFits : List Declaration → Formula → List Strip → Type 0
NoneFits E g [] = Unit {0}
NoneFits E g (s ∷ ss) = ((ts : List Term) → FitsGoal E g s ts → ⊥) × NoneFits E g ss

-- the strip fits with these terms, and none before it fits with any
pub record IsLeast (E : List Declaration) (g : Formula) (ss : List Strip) (w : Strip × List Term) : Type 0 where
  pub before : List Strip
  pub behind : List Strip
  pub whole : ss ≡ before ++ w.0 ∷ behind
  pub is : FitsGoal E g w.0 w.1
  pub none_before : NoneFits E g before

-- the formula is an equation
abbrev pub is_equation : Formula → Bool
is_equation (equal s t u) = true
is_equation a = false

-- the first whose head form is an equation
abbrev pub equation : List Declaration → List Strip → Option Strip
equation E [] = None
equation E (s ∷ ss) = if is_equation (head_form E s.rest) then Some s else equation E ss

-- what is left of a formula after some strips
pub data Stripped (E : List Declaration) (a : Formula) : Strip → Type 0 where
  unstripped : Stripped E a (strip [] [] a)
  quantifier : (s : Strip) (r x : List ℕ) (b : Formula) → Stripped E a s → head_form E s.rest ≡ all r x b →
      Stripped E a (strip (r ∷ s.sorts) (map under s.premises) b)
  premise : (s : Strip) (p b : Formula) → Stripped E a s → head_form E s.rest ≡ implies p b →
      Stripped E a (strip s.sorts (s.premises ++ p ∷ []) b)

-- the strip with this number in a list
abbrev pub StripAt : List Strip → ℕ → Strip → Type 0
StripAt [] j s = ⊥
StripAt (x ∷ xs) zero s = x ≡ s
StripAt (x ∷ xs) (suc j) s = StripAt xs j s
