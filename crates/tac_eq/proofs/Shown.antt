-- The rules that evidence has.
use Rattle.std.proofs.Common.{List, ◌++◌, Result, Ok, Err, sym, subst}
use Rattle.fol_theory.specs.Syntax.{Term, Formula, all, implies}
use Rattle.fol_theory.specs.Slots.{Slot}
use Rattle.env_theory.specs.Declarations.{Declaration}
use Rattle.logic_theory.specs.Rules.{Rule, Every}
use Rattle.logic_theory.proofs.Trees.{every_join}
use Rattle.tactic_theory.specs.Evidence.{Evidence, assumed, declared, with_term, with_proof, shows}
use Rattle.tactic_theory.specs.Faults.{Fault}
use Rattle.evidence_core.specs.declared.shown.Evidence.{Evidence as Shown}
use Rattle.evidence_core.specs.Meaning.{showing}
use Rattle.evidence_core.specs.Trees.{term_rule, proof_rule, rule_at, tree_of}
use Rattle.strip_core.specs.Trees.{IsOfEvidence}
use Rattle.tac_base.specs.Given.{IsGiven}

term_rules : (t : Term) (a : Formula) → Every IsOfEvidence (term_rule t a)
term_rules t (all r x b) = (tt, tt)
term_rules t a = tt

proof_rules : (a : Formula) → Every IsOfEvidence (proof_rule a)
proof_rules (implies a b) = (tt, tt)
proof_rules a = tt

rules_at : (E : List Declaration) (rule : Formula → List Rule) → ((a : Formula) → Every IsOfEvidence (rule a)) → (o : Result Formula Fault)
    → Every IsOfEvidence (rule_at E rule o)
rules_at E rule h (Ok a) = h _
rules_at E rule h (Err f) = tt

rules_of : (E : List Declaration) (c : List Slot) (e : Evidence) → Every IsOfEvidence (tree_of E c e)
rules_of E c (assumed i) = (tt, tt)
rules_of E c (declared n a) = (tt, tt)
rules_of E c (with_term e s t) = every_join IsOfEvidence (rule_at E (term_rule t) (shows E c e)) (tree_of E c e)
    (rules_at E (term_rule t) (term_rules t) (shows E c e)) (rules_of E c e)
rules_of E c (with_proof e d) = every_join IsOfEvidence (rule_at E proof_rule (shows E c e)) (tree_of E c e ++ tree_of E c d)
    (rules_at E proof_rule proof_rules (shows E c e))
    (every_join IsOfEvidence (tree_of E c e) (tree_of E c d) (rules_of E c e) (rules_of E c d))

pub given_rules : (E : List Declaration) (c : List Slot) (e : Evidence) (m : Shown) → IsGiven E c e m → Every IsOfEvidence (showing m).tree
given_rules E c e m k = subst (Every IsOfEvidence) (sym k.comes.tree) (rules_of E c e)
