-- What evidence comes to.
use Rattle.std.specs.Prelude.{◌≡◌, ℕ, List, [], ◌∷◌, ◌++◌, Option, Some, None, Result, Ok}
use Rattle.vern_grammar.specs.Trees.{Name, Expression}
use Rattle.base_core.specs.Answers.{and_then}
use Rattle.fol_theory.specs.Syntax.{Term, Formula}
use Rattle.fol_theory.specs.Substitution.{instantiate}
use Rattle.fol_theory.specs.Slots.{Slot}
use Rattle.env_theory.specs.Declarations.{Declaration}
use Rattle.env_theory.specs.Heads.{head_form}
use Rattle.elab_theory.specs.Locals.{locals_in}
use Rattle.elab_theory.specs.Expressions.{span_of, term_of}
use Rattle.logic_theory.specs.Rules.{Rule, step, all_e, imp_e}
use Rattle.tactic_theory.specs.Names.{hypothesis_named}
use Rattle.tactic_theory.specs.Faults.{Fault, of_typing, no_goal, no_such_hypothesis, not_of_form, cannot_match, name_taken, too_large}
use Rattle.tactic_theory.specs.Typing.{meaning as name_meaning, start, with_argument, evidence_of}
use Rattle.tactic_theory.specs.Evidence.{Evidence, assumed, declared, with_term, with_proof, shows, IsTyped}
use Rattle.evidence_core.specs.Trees.{tree_of}
use Rattle.evidence_core.specs.Pairs.{pairs_of}

-- the formula that is shown, the tree that shows it, the formulas that have to be the same, and the number of the hypothesis that the
-- evidence is, if it is one alone
pub record Showing : Type 0 where
  pub formula : Formula
  pub tree : List Rule
  pub pairs : List (Formula × Formula)
  pub hypothesis : Option ℕ

-- the number of the hypothesis that evidence is, if it is one alone
abbrev pub bare : Evidence → Option ℕ
bare (assumed i) = Some i
bare (declared n a) = None
bare (with_term e s t) = None
bare (with_proof e d) = None

-- evidence with its names and terms found comes to this
pub record Comes (E : List Declaration) (c : List Slot) (e : Evidence) (s : Showing) : Type 0 where
  pub typed : IsTyped E c e
  pub formula : shows E c e ≡ Ok s.formula
  pub tree : s.tree ≡ tree_of E c e
  pub pairs : s.pairs ≡ pairs_of E c e
  pub hypothesis : s.hypothesis ≡ bare e

-- what shows a quantifier of this sort and body, applied to a term
abbrev pub with_term_put : List ℕ → Formula → Term → Showing → Showing
with_term_put r b t s = record {
  formula = instantiate b t;
  tree = step (all_e r b t) ∷ s.tree;
  pairs = s.pairs;
  hypothesis = None;
}

-- what shows that a implies b, applied to other evidence
abbrev pub with_proof_put : Formula → Formula → Showing → Showing → Showing
with_proof_put a b d s = record {
  formula = b;
  tree = step (imp_e a) ∷ (s.tree ++ d.tree);
  pairs = s.pairs ++ (d.pairs ++ ((a, d.formula) ∷ []));
  hypothesis = None;
}

-- the evidence that is wanted comes to this
abbrev pub StandsFor : List Declaration → List Slot → Result Evidence Fault → Showing → Type 0
StandsFor E c wanted s = (e : Evidence) × (wanted ≡ Ok e) × Comes E c e s

-- the evidence that a name is
abbrev pub begun : List Declaration → List Slot → Name → Result Evidence Fault
begun E c x = start (name_meaning E c x.text) x (hypothesis_named c x.text)

-- evidence applied to one argument
abbrev pub applied : List Declaration → List Slot → Evidence → Expression → Result Evidence Fault
applied E c e a = and_then (shows E c e) (λ f. with_argument (head_form E f) e (span_of a) (term_of E (locals_in c) a) (evidence_of E c a))

-- a fault of evidence as it is written: one of typing, or an argument at what is neither a quantifier over all nor an implication
abbrev pub IsOfEvidence : Fault → Type 0
IsOfEvidence (of_typing f) = Unit {0}
IsOfEvidence no_goal = ⊥
IsOfEvidence no_such_hypothesis = ⊥
IsOfEvidence not_of_form = Unit {0}
IsOfEvidence cannot_match = ⊥
IsOfEvidence name_taken = ⊥
IsOfEvidence (too_large n h) = ⊥
