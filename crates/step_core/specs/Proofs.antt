-- The open proof of the theory that one stands for, and what is kept of it.
use Rattle.std.specs.Prelude.{◌≡◌, ℕ, List, [], Option, Some, None}
use Rattle.fol_theory.specs.Syntax.{Formula}
use Rattle.term_core.specs.Formula.{meaning}
use Rattle.env_core.specs.declared.declaration.Decl.{Decl}
use Rattle.env_theory.specs.Declarations.{Declaration, find}
use Rattle.env_theory.specs.Typing.{WellFormed}
use Rattle.logic_theory.specs.Goals.{goal}
use Rattle.tactic_theory.specs.States.{state}
use Rattle.script_theory.specs.Sentences.{Open, opened}
use Rattle.proof_state.specs.declared.state.State.{State}
use Rattle.proof_state.specs.States.{state_of, Fits}
use Rattle.step_core.specs.declared.proof.Lemma.{Lemma}
use Rattle.step_core.specs.declared.proof.OpenProof.{OpenProof}
use Rattle.step_core.specs.declared.proof.OpenProof.TheVariants.{Of, Failed}

-- an environment, and the open proof if there is one
pub record Kept : Type 0 where
  pub env : List Decl
  pub proof : Option OpenProof

-- the same from its parts
abbrev pub kept : List Decl → Option OpenProof → Kept
kept ds p = record { env = ds; proof = p }

-- its name and its formula
abbrev pub statement_of : Lemma → List ℕ × Formula
statement_of l = (l.name, meaning l.formula)

-- the open proof that one stands for; without a statement it has no goals
abbrev pub open_of : OpenProof → Open
open_of (Of l) = opened (Some (statement_of l)) (state_of l.state) l.fault
open_of (Failed id) = opened None (state [] []) (Some id)

-- nothing has its name, its formula is well formed, and its goals are those of a tree for the formula
pub record IsLemma (E : List Declaration) (l : Lemma) : Type 0 where
  pub new : find E l.name ≡ None
  pub formed : WellFormed E [] (meaning l.formula)
  pub fits : Fits E (goal [] (meaning l.formula)) l.state

-- the same of an open proof that has a statement
abbrev pub IsKept : List Declaration → OpenProof → Type 0
IsKept E (Of l) = IsLemma E l
IsKept E (Failed id) = Unit {0}

-- the same of an open proof if there is one
abbrev pub IsKeptIf : List Declaration → Option OpenProof → Type 0
IsKeptIf E None = Unit {0}
IsKeptIf E (Some p) = IsKept E p

-- the proof has a statement, and this state's goals are those of a tree for it
abbrev pub IsNext : List Declaration → Option OpenProof → State → Type 0
IsNext E None s = ⊥
IsNext E (Some (Of l)) s = Fits E (goal [] (meaning l.formula)) s
IsNext E (Some (Failed id)) s = ⊥
