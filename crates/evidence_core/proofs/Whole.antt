-- What is so of evidence that was read.
use Rattle.std.proofs.Common.{◌≡◌, true, List, Result, Ok, Err, Decides, sym, subst, ◌∙◌}
use Rattle.std.specs.Prelude.{◌↔◌, IfErr, IfOk}
use Rattle.fol_theory.specs.Syntax.{Formula}
use Rattle.fol_theory.specs.Contexts.{variables}
use Rattle.fol_theory.specs.Slots.{Slot, entries}
use Rattle.env_theory.specs.Declarations.{Declaration}
use Rattle.env_theory.specs.Typing.{Environment, WellFormed}
use Rattle.env_theory.specs.Normal.{Same}
use Rattle.logic_theory.specs.Proofs.{IsProof}
use Rattle.logic_theory.specs.Rules.{seq, FormedContext}
use Rattle.tactic_theory.specs.Faults.{Fault}
use Rattle.tactic_theory.specs.Evidence.{Evidence, is_met}
use Rattle.elab_core.specs.declared.fault.ElabFault.{ElabFault}
use Rattle.elab_core.specs.declared.fault.ElabFault.TheVariants.{NoMemory}
use Rattle.evidence_core.specs.declared.shown.Evidence.{Evidence as Made}
use Rattle.evidence_core.specs.Answers.{Fails, Tells}
use Rattle.evidence_core.specs.Meaning.{pairs, showing}
use Rattle.term_core.specs.Formula.{meaning}
use Rattle.proof_tree.specs.Meaning.{meanings}
use Rattle.evidence_core.specs.Pairs.{AreFormed, AreSame}
use Rattle.evidence_core.specs.Showings.{Showing, Comes, StandsFor}
use Rattle.evidence_core.proofs.Results.{ok_is}
use Rattle.evidence_core.proofs.Formed.{shown_formed, pairs_formed}
use Rattle.evidence_core.proofs.Premises.{met_decides}
use Rattle.evidence_core.proofs.Proved.{proved}

module _ (E : List Declaration) (c : List Slot) (w : Result Evidence Fault) (s : Showing) (k : StandsFor E c w s) where
  comes_decides : (e : Evidence) → Comes E c e s → Decides (is_met E c e) (AreSame E s.pairs)
  comes_decides e j = subst (λ ps. Decides (is_met E c e) (AreSame E ps)) (sym j.pairs) (met_decides E c e s.formula j.formula)

  met_is : (e : Evidence) → w ≡ Ok e → (is_met E c e ≡ true) ↔ AreSame E s.pairs
  met_is e q = comes_decides e (subst (λ z. Comes E c z s) (ok_is Evidence k.0 e (sym k.1 ∙ q)) k.2)

  module _ (x : Environment E) (f : FormedContext E (entries c)) where
    proved_is : AreSame E s.pairs → (g : Formula) → Same E s.formula g → IsProof E s.tree (seq (entries c) g)
    proved_is h g q = subst (λ rs. IsProof E rs (seq (entries c) g)) (sym k.2.tree)
        (proved E x c f k.0 k.2.typed ((comes_decides k.0 k.2).1 h) s.formula k.2.formula g q)

    formed_is : WellFormed E (variables (entries c)) s.formula
    formed_is = shown_formed E x c f k.0 k.2.typed s.formula k.2.formula

    pairs_formed_is : AreFormed E (variables (entries c)) s.pairs
    pairs_formed_is = subst (AreFormed E (variables (entries c))) (sym k.2.pairs) (pairs_formed E x c f k.0 k.2.typed s.formula k.2.formula)

-- what is left of a draft whose arguments are read
pub finished : (E : List Declaration) (c : List Slot) (w : Result Evidence Fault) (s : Showing) (r : Result Made ElabFault)
    → IfOk r (λ e. showing e ≡ s) → IfErr r (λ f. f ≡ NoMemory) → StandsFor E c w s → Tells showing E c r w
finished E c w s (Ok e) h k d = subst (StandsFor E c w) (sym h) d
finished E c w s (Err f) h k d = subst (λ z. Fails z w) (sym k) tt

-- ---- the clauses, of what was answered

module _ (E : List Declaration) (c : List Slot) (w : Result Evidence Fault) where
  pub met_told : (r : Result Made ElabFault) → Tells showing E c r w
      → IfOk r (λ made. (e : Evidence) → w ≡ Ok e → (is_met E c e ≡ true) ↔ AreSame E (pairs made.must.items))
  met_told (Ok made) k = met_is E c w (showing made) k
  met_told (Err f) k = tt

  module _ (x : Environment E) (f : FormedContext E (entries c)) where
    pub proved_told : (r : Result Made ElabFault) → Tells showing E c r w → IfOk r (λ made. AreSame E (pairs made.must.items)
        → (g : Formula) → Same E (meaning made.formula) g → IsProof E (meanings made.tree) (seq (entries c) g))
    proved_told (Ok made) k = proved_is E c w (showing made) k x f
    proved_told (Err g) k = tt

    pub formed_told : (r : Result Made ElabFault) → Tells showing E c r w
        → IfOk r (λ made. WellFormed E (variables (entries c)) (meaning made.formula))
    formed_told (Ok made) k = formed_is E c w (showing made) k x f
    formed_told (Err g) k = tt

    pub pairs_told : (r : Result Made ElabFault) → Tells showing E c r w
        → IfOk r (λ made. AreFormed E (variables (entries c)) (pairs made.must.items))
    pairs_told (Ok made) k = pairs_formed_is E c w (showing made) k x f
    pairs_told (Err g) k = tt
