-- What leaves nothing open.
use Rattle.std.proofs.Common.{◌≡◌, ℕ, Bool, true, false, ◌&&◌, List, [], ◌∷◌, Result, Ok, Err, refl, sym, ap, subst, ◌∙◌}
use Rattle.base_core.specs.Answers.{and_then}
use Rattle.fol_theory.specs.Syntax.{Formula}
use Rattle.fol_theory.specs.Contexts.{hypotheses, IsHypothesis}
use Rattle.fol_theory.specs.Slots.{entries}
use Rattle.env_theory.specs.Declarations.{Declaration}
use Rattle.env_theory.specs.Normal.{Same}
use Rattle.logic_theory.specs.Goals.{Goal, sequent}
use Rattle.logic_theory.specs.Proofs.{IsProof}
use Rattle.logic_theory.specs.Rules.{Rule, step, hyp}
use Rattle.tactic_theory.specs.Faults.{Fault, cannot_match}
use Rattle.tactic_theory.specs.Evidence.{Evidence, is_met, is_same}
use Rattle.tactic_theory.specs.Refinements.{Part, Refinement, exact, if_met, row, has_same}
use Rattle.tactic_theory.proofs.Found.{is_same_decides}
use Rattle.term_core.specs.Formula.{meaning}
use Rattle.proof_tree.specs.Meaning.{meanings}
use Rattle.evidence_core.specs.declared.shown.Evidence.{Evidence as Read}
use Rattle.tac_base.specs.declared.opening.Opening.{Opening}
use Rattle.tac_base.specs.declared.fault.TacFault.{TacFault}
use Rattle.tac_base.specs.Faults.{Refuses}
use Rattle.tac_base.specs.Given.{IsGiven}
use Rattle.tac_base.specs.Openings.{made, opening, measured, Opens, Answers}
use Rattle.tac_base.proofs.Answered.{refuses_then}
use Rattle.tac_core.specs.Exacts.{nothing_if, TellsSame}
use Rattle.tac_core.proofs.Trees.{by_proof}
use Rattle.tac_core.proofs.Passed.{same_there}

-- ---- a refinement of evidence

module _ (E : List Declaration) (g : Goal) (w : Result Evidence Fault) (make : Evidence → Refinement) where
  abbrev wanted : Result (List Part) Fault
  wanted = and_then (and_then w (λ e. Ok (make e))) (row E g.slots g.shown)

  -- a fault of the evidence
  pub evidence_refused : (f : TacFault) → Refuses (λ z. z) f w → Refuses (λ z. z) f (measured E wanted)
  evidence_refused f h =
      refuses_then f wanted _ (refuses_then f (and_then w (λ e. Ok (make e))) _ (refuses_then f w _ h))

  -- evidence that is there
  pub evidence_answered : (e : Evidence) → w ≡ Ok e → (r : Result Opening TacFault) → Answers E g r (row E g.slots g.shown (make e))
      → Answers E g r wanted
  evidence_answered e q r h = subst (λ z. Answers E g r (and_then (and_then z (λ e. Ok (make e))) (row E g.slots g.shown))) (sym q) h

-- ---- exact

pub exact_row : (E : List Declaration) (g : Goal) (e : Evidence) (m : Read) → IsGiven E g.slots e m
    → if_met (is_met E g.slots e && is_same E (meaning m.formula) g.shown) [] ≡ row E g.slots g.shown (exact e)
exact_row E g e m i = ap (λ r. and_then r (λ a. if_met (is_met E g.slots e && is_same E a g.shown) [])) (sym i.comes.formula)

second_met : (met same : Bool) → if_met (met && same) [] ≡ and_then (nothing_if met) (λ u. if_met {A = List Part} same [])
second_met true same = refl
second_met false same = refl

-- the premises aren't met
pub unmet_refused : (E : List Declaration) (met same : Bool) (f : TacFault) → Refuses (λ z. z) f (nothing_if met)
    → Refuses (λ z. z) f (measured E (if_met (met && same) []))
unmet_refused E met same f h = subst (λ v. Refuses (λ z. z) f (measured E v)) (sym (second_met met same))
    (refuses_then f (and_then (nothing_if met) (λ u. if_met {A = List Part} same [])) _ (refuses_then f (nothing_if met) _ h))

-- what is shown is another formula
pub other_refused : (E : List Declaration) (met : Bool) (a g : Formula) → (Same E a g → ⊥)
    → measured E (if_met (met && is_same E a g) []) ≡ Err cannot_match
other_refused E met a g h = go met (is_same E a g) (is_same_decides E a g).0
  where
    go : (p q : Bool) → (q ≡ true → Same E a g) → measured E (if_met (p && q) []) ≡ Err cannot_match
    go true true k = absurd (h (k refl))
    go true false k = refl
    go false q k = refl

-- a proof of the goal
proof_answers : (E : List Declaration) (g : Goal) (ts : List Rule) (o : Opening) (v : Bool) → opening o ≡ made ts [] → v ≡ true
    → IsProof E ts (sequent g) → Answers E g (Ok o) (if_met v [])
proof_answers E g ts o v is q p =
    let t = by_proof E ts (sequent g) p in
    ([], ap (λ z. if_met z []) q, subst (Opens E g []) (sym is) (record { follows = t.follows; leaves = t.leaves; formulas = refl }))

met_is : (met : Bool) → nothing_if met ≡ Ok tt → met ≡ true
met_is true e = refl
met_is false e = absurd cc

-- evidence that shows it
pub exact_answers : (E : List Declaration) (g : Goal) (m : Read) (e : Evidence) → IsGiven E g.slots e m → (met : Bool)
    → TellsSame E m.must.items met → (o : Opening) → opening o ≡ made (meanings m.tree) [] → nothing_if met ≡ Ok tt
    → Same E (meaning m.formula) g.shown → Answers E g (Ok o) (if_met (met && is_same E (meaning m.formula) g.shown) [])
exact_answers E g m e i met s o is f h =
    let t = met_is met f in
    proof_answers E g (meanings m.tree) o _ is ((λ j. t j && is_same E (meaning m.formula) g.shown)
    ∙ (is_same_decides E (meaning m.formula) g.shown).1 h) (i.proved (s.0 t) g.shown h)

-- ---- assumption

pub hypothesis_answers : (E : List Declaration) (g : Goal) (i : ℕ) (a : Formula) (o : Opening) → IsHypothesis (entries g.slots) i a
    → Same E a g.shown → opening o ≡ made (step (hyp i) ∷ []) [] → Answers E g (Ok o) (if_met (has_same E (hypotheses (entries g.slots)) g.shown) [])
hypothesis_answers E g i a o h s is =
    proof_answers E g (step (hyp i) ∷ []) o _ is (same_there E (entries g.slots) i a g.shown h s) (((a, h, s), tt), refl)
