-- Evidence that was read, with what its tree proves.
use Rattle.std.specs.Prelude.{◌≡◌, ◌↔◌, true, List, Result, Ok, Err}
use Rattle.fol_theory.specs.Syntax.{Formula}
use Rattle.fol_theory.specs.Contexts.{variables}
use Rattle.fol_theory.specs.Slots.{Slot, entries}
use Rattle.env_theory.specs.Declarations.{Declaration}
use Rattle.env_theory.specs.Normal.{Same}
use Rattle.env_theory.specs.Typing.{WellFormed}
use Rattle.logic_theory.specs.Proofs.{IsProof}
use Rattle.logic_theory.specs.Rules.{seq}
use Rattle.tactic_theory.specs.Faults.{Fault}
use Rattle.tactic_theory.specs.Evidence.{Evidence, is_met}
use Rattle.evidence_core.specs.declared.shown.Evidence.{Evidence as Made}
use Rattle.evidence_core.specs.Meaning.{pairs, showing}
use Rattle.evidence_core.specs.Pairs.{AreFormed, AreSame}
use Rattle.evidence_core.specs.Showings.{Comes}
use Rattle.tac_base.specs.declared.fault.TacFault.{TacFault}
use Rattle.tac_base.specs.Faults.{Refuses}

-- What was read is this evidence. It is met exactly where the formulas of its pairs are the same, and then its tree proves what it shows.
pub record IsGiven (E : List Declaration) (c : List Slot) (e : Evidence) (m : Made) : Type 0 where
  pub comes : Comes E c e (showing m)
  pub met : (is_met E c e ≡ true) ↔ AreSame E (pairs m.must.items)
  pub proved : AreSame E (pairs m.must.items) → (g : Formula) → Same E (showing m).formula g → IsProof E (showing m).tree (seq (entries c) g)
  pub formed : WellFormed E (variables (entries c)) (showing m).formula
  pub pairs_formed : AreFormed E (variables (entries c)) (pairs m.must.items)

-- what is read is the evidence that is wanted, else the fault is the wanted one
abbrev pub Reads : List Declaration → List Slot → Result Made TacFault → Result Evidence Fault → Type 0
Reads E c (Ok m) wanted = (e : Evidence) × (wanted ≡ Ok e) × IsGiven E c e m
Reads E c (Err f) wanted = Refuses (λ z. z) f wanted
