-- What is made where evidence is taken apart.
use Rattle.std.specs.Prelude.{◌≡◌, ℕ, Bool, if◌then◌else◌, List, [], ◌∷◌, ◌++◌, Option, Some, None, Result, Err}
use Rattle.fol_theory.specs.Syntax.{Formula, is_name}
use Rattle.fol_theory.specs.Substitution.{under}
use Rattle.fol_theory.specs.Slots.{Slot, names, slots_without}
use Rattle.env_theory.specs.Declarations.{Declaration}
use Rattle.env_theory.specs.Heads.{head_form}
use Rattle.logic_theory.specs.Goals.{Goal}
use Rattle.logic_theory.specs.Rules.{Rule, leaf, step, drop, and_e, ex_e, false_e, or_e}
use Rattle.tactic_theory.specs.Names.{is_taken}
use Rattle.tactic_theory.specs.Faults.{Fault, name_taken}
use Rattle.tactic_theory.specs.Evidence.{Evidence}
use Rattle.tactic_theory.specs.Refinements.{cases_form, falsity_form, pair_form}
use Rattle.term_core.specs.Context.{slots}
use Rattle.term_core.specs.Formula.{meaning}
use Rattle.evidence_core.specs.declared.shown.Evidence.{Evidence as Read}
use Rattle.tac_base.specs.Given.{IsGiven}
use Rattle.tac_base.specs.Openings.{Made, made, Answers}
use Rattle.tac_base.specs.declared.opening.Opening.{Opening}
use Rattle.tac_base.specs.declared.fault.TacFault.{TacFault}
use Rattle.tac_base.specs.declared.site.Site.{Site}
use Rattle.tac_base.specs.Sites.{env_of, goal_at, IsSite}
use Rattle.tac_core.specs.declared.destruct.Apart.{Apart}
use Rattle.tac_core.specs.Exacts.{nothing_if, TellsSame}

-- ---- what is left

-- a hypothesis that is taken apart goes
abbrev pub left_of : List Slot → Option ℕ → List Slot
left_of c None = c
left_of c (Some i) = slots_without c i

-- the rules of a branch: a hypothesis that is taken apart goes, and the goal is left open
abbrev pub branch : Option ℕ → List (List ℕ) → List Rule
branch None ns = leaf ns ∷ []
branch (Some i) ns = step (drop i) ∷ leaf ns ∷ []

-- a branch more, over slots of which these are new
abbrev pub with_branch : Option ℕ → List (List ℕ) → List Slot → Formula → Made → Made
with_branch o ns k a m = made (m.rules ++ branch o (ns ++ names k)) (m.formulas ++ a ∷ [])

-- ---- what is asked before

-- both names are free, and the premises are met
abbrev pub cases_fit : List Declaration → List Slot → Bool → List ℕ → List ℕ → Result (Unit {0}) Fault
cases_fit E k met m n = if is_taken E k m then Err name_taken else (if is_taken E k n then Err name_taken else nothing_if met)

-- the same, and the names differ
abbrev pub pair_fits : List Declaration → List Slot → Bool → List ℕ → List ℕ → Result (Unit {0}) Fault
pair_fits E k met m n = if is_name n m then Err name_taken else cases_fit E k met m n

-- ---- evidence that is taken apart

-- evidence was read at a site, and these slots are left of the context
pub record IsTakenApart (E : List Declaration) (g : Goal) (n : ℕ) (m : Read) (k : List Slot) : Type 0 where
  pub ready : IsSite E g n
  pub given : (e : Evidence) × IsGiven E g.slots e m
  pub kept : k ≡ left_of g.slots m.hypothesis

-- the same of what is kept of it
abbrev pub IsApart : Apart → Type 0
IsApart a = IsTakenApart (env_of a.site.now) (goal_at a.site.now) a.site.now.variables a.evidence (slots a.kept)

-- ---- what is made, from the tree of the evidence

-- of a falsity
abbrev pub falsity_made : List Rule → Made
falsity_made ts = made (step false_e ∷ (ts ++ [])) []

-- The slots k are left, without the hypothesis o if one is taken apart, and g is to be shown. What is made of both of a and b, with
-- these names:
abbrev pub pair_made : List Rule → Option ℕ → List Slot → Formula → List ℕ → List ℕ → Formula → Formula → Made
pair_made ts o k g m n a b = made (step (and_e a b) ∷ (ts ++ branch o (n ∷ m ∷ names k))) (a ∷ b ∷ g ∷ [])

-- of b for one of the sort s
abbrev pub witness_made : List Rule → Option ℕ → List Slot → Formula → List ℕ → List ℕ → List ℕ → Formula → Made
witness_made ts o k g m n s b = made (step (ex_e s b) ∷ (ts ++ branch o (n ∷ m ∷ names k))) (b ∷ under g ∷ [])

-- of either of a and b
abbrev pub cases_made : List Rule → Option ℕ → List Slot → Formula → List ℕ → List ℕ → Formula → Formula → Made
cases_made ts o k g m n a b = made (step (or_e a b) ∷ (ts ++ (branch o (m ∷ names k) ++ branch o (n ∷ names k)))) (a ∷ g ∷ b ∷ g ∷ [])

-- ---- what is answered

-- the head form of what evidence shows
abbrev pub head_of : Site → Read → Formula
head_of s m = head_form (env_of s) (meaning m.formula)

-- the answer is what is wanted of a falsity with this head form, whatever the premises are
abbrev pub AnswersFalsity : Site → Read → Result Opening TacFault → Formula → Type 0
AnswersFalsity s m r h = (met : Bool) → TellsSame (env_of s) m.must.items met → Answers (env_of s) (goal_at s) r (falsity_form met h)

-- the same of a pair or a witness
abbrev pub AnswersPair : Apart → Result Opening TacFault → Formula → Type 0
AnswersPair a r h = (met : Bool) → TellsSame (env_of a.site.now) a.evidence.must.items met → Answers (env_of a.site.now) (goal_at a.site.now) r
    (pair_form (env_of a.site.now) (slots a.kept) met a.first a.second (goal_at a.site.now).shown h)

-- the same of two cases
abbrev pub AnswersCases : Apart → Result Opening TacFault → Formula → Type 0
AnswersCases a r h = (met : Bool) → TellsSame (env_of a.site.now) a.evidence.must.items met → Answers (env_of a.site.now) (goal_at a.site.now) r
    (cases_form (env_of a.site.now) (slots a.kept) met a.first a.second (goal_at a.site.now).shown h)
