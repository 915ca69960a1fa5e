-- What is found where nothing is to be left open.
use Rattle.std.specs.Prelude.{◌≡◌, ◌↔◌, ℕ, Bool, true, false, List, Option, Some, None, Result}
use Rattle.fol_theory.specs.Syntax.{Formula}
use Rattle.fol_theory.specs.Contexts.{Entry, hypotheses, IsHypothesis}
use Rattle.env_theory.specs.Declarations.{Declaration}
use Rattle.env_theory.specs.Normal.{Same}
use Rattle.tactic_theory.specs.Faults.{Fault}
use Rattle.tactic_theory.specs.Refinements.{has_same, if_met}
use Rattle.evidence_core.specs.declared.shown.Pair.{Pair}
use Rattle.evidence_core.specs.Meaning.{pairs}
use Rattle.evidence_core.specs.Pairs.{AreSame}
use Rattle.tac_base.specs.declared.fault.TacFault.{TacFault}
use Rattle.tac_base.specs.Faults.{Gives}

-- the test says whether the formulas of each pair are the same
abbrev pub TellsSame : List Declaration → List Pair → Bool → Type 0
TellsSame E ps met = (met ≡ true) ↔ AreSame E (pairs ps)

-- nothing, where the premises are met
abbrev pub nothing_if : Bool → Result (Unit {0}) Fault
nothing_if met = if_met met (tt {0})

-- nothing is answered where nothing is wanted, else the fault is the wanted one, or want of memory
abbrev pub Passes : {X : Type 0} → Result X TacFault → Result (Unit {0}) Fault → Type 0
Passes r wanted = Gives (λ x. tt {0}) (λ f. f) r wanted

-- the number is of a hypothesis that is the same as the formula; there is no number where none is
abbrev pub FindsSame : List Declaration → List Entry → Formula → Option ℕ → Type 0
FindsSame E c g None = has_same E (hypotheses c) g ≡ false
FindsSame E c g (Some i) = (a : Formula) × IsHypothesis c i a × Same E a g
