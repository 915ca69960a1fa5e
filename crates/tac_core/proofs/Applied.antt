-- Evidence applied: the tree that it makes.
use Rattle.std.proofs.Common.{◌≡◌, ℕ, ◌+◌, true, ◌&&◌, List, [], ◌++◌, length, Some, Ok, Err, Result, sym, subst}
use Rattle.fol_theory.specs.Syntax.{Term, Formula, all, implies}
use Rattle.fol_theory.specs.Contexts.{variables}
use Rattle.fol_theory.specs.Slots.{Slot, entries, names}
use Rattle.env_theory.specs.Declarations.{Declaration}
use Rattle.env_theory.specs.Normal.{normal}
use Rattle.env_theory.specs.Typing.{WellFormed}
use Rattle.logic_theory.specs.Goals.{Goal}
use Rattle.logic_theory.specs.Rules.{Rule, Every}
use Rattle.logic_theory.proofs.Trees.{every_join}
use Rattle.match_theory.specs.Places.{all_below, occurs}
use Rattle.tactic_theory.specs.Evidence.{Evidence, assumed, declared, with_term, with_proof, shows, is_met}
use Rattle.tactic_theory.specs.Faults.{Fault}
use Rattle.tactic_theory.specs.Refinements.{Part, if_met, premise_parts, apply_found}
use Rattle.tactic_theory.specs.Strips.{Strip, all_strips, fitting, strip, unstripped}
use Rattle.tactic_theory.proofs.Stripped.{strips_stripped, fitting_stripped}
use Rattle.evidence_core.specs.declared.shown.Evidence.{Evidence as Shown}
use Rattle.evidence_core.specs.Meaning.{pairs, showing}
use Rattle.evidence_core.specs.Pairs.{AreSame}
use Rattle.evidence_core.specs.Trees.{term_rule, proof_rule, rule_at, tree_of}
use Rattle.evidence_core.proofs.Heads.{head_same}
use Rattle.strip_core.specs.Descents.{stripped}
use Rattle.strip_core.specs.Trees.{IsOfEvidence, through}
use Rattle.strip_core.proofs.Fitted.{rest_formed, fitting_leads}
use Rattle.tac_base.specs.Given.{IsGiven}
use Rattle.tac_base.specs.Openings.{made, Opens}
use Rattle.tac_base.specs.Sites.{IsSite}

-- ---- the rules of evidence

term_rules : (t : Term) (a : Formula) → Every IsOfEvidence (term_rule t a)
term_rules t (all r x b) = (tt, tt)
term_rules t a = tt

proof_rules : (a : Formula) → Every IsOfEvidence (proof_rule a)
proof_rules (implies a b) = (tt, tt)
proof_rules a = tt

rules_at : (E : List Declaration) (rule : Formula → List Rule) → ((a : Formula) → Every IsOfEvidence (rule a)) → (o : Result Formula Fault)
    → Every IsOfEvidence (rule_at E rule o)
rules_at E rule h (Ok a) = h _
rules_at E rule h (Err f) = tt

rules_of : (E : List Declaration) (c : List Slot) (e : Evidence) → Every IsOfEvidence (tree_of E c e)
rules_of E c (assumed i) = (tt, tt)
rules_of E c (declared n a) = (tt, tt)
rules_of E c (with_term e s t) = every_join IsOfEvidence (rule_at E (term_rule t) (shows E c e)) (tree_of E c e)
    (rules_at E (term_rule t) (term_rules t) (shows E c e)) (rules_of E c e)
rules_of E c (with_proof e d) = every_join IsOfEvidence (rule_at E proof_rule (shows E c e)) (tree_of E c e ++ tree_of E c d)
    (rules_at E proof_rule proof_rules (shows E c e))
    (every_join IsOfEvidence (tree_of E c e) (tree_of E c d) (rules_of E c e) (rules_of E c d))

pub given_rules : (E : List Declaration) (c : List Slot) (e : Evidence) (m : Shown) → IsGiven E c e m → Every IsOfEvidence (showing m).tree
given_rules E c e m k = subst (Every IsOfEvidence) (sym k.comes.tree) (rules_of E c e)

-- ---- the tree

module _ (E : List Declaration) (g : Goal) (n : ℕ) (site : IsSite E g n) (m : Shown) (e : Evidence) (k : IsGiven E g.slots e m) (s : Strip)
    (ts : List Term) (f : fitting E g.shown (all_strips E (showing m).formula) ≡ Some (s, ts)) where
  pub left_formed : WellFormed E (s.sorts ++ variables (entries g.slots)) s.rest
  left_formed = rest_formed E site.environment (variables (entries g.slots)) (showing m).formula k.formed s
      (fitting_stripped E (showing m).formula g.shown (all_strips E (showing m).formula)
      (strips_stripped _ E (showing m).formula (strip [] [] (showing m).formula) unstripped) (s, ts) f)

  pub applied_opens : AreSame E (pairs m.must.items) → true ≡ all_below (length s.sorts) (λ i. occurs i (normal E s.rest))
      → let d = stripped E (showing m).formula s ts in
      (ps : List Part) × (apply_found E g.slots (is_met E g.slots e) (Some (s, ts)) ≡ Ok ps)
      × Opens E g ps (made (through (showing m).tree (names g.slots) d) d.premises)
  applied_opens same o =
      let up = fitting_leads E site.environment g.slots (showing m).formula k.formed (showing m).tree
      (head_same E site.environment (variables (entries g.slots))) (k.proved same) g.shown site.formed.1 s ts f (sym o) in (
        premise_parts g.slots ts s.premises,
        (λ i. if_met (k.met.1 same i && sym o i) (premise_parts g.slots ts s.premises)),
        record { follows = up.follows; leaves = up.leaves; formulas = up.formulas },
      )
