-- The tree of kernel rules that shows what evidence shows.
use Rattle.std.specs.Prelude.{List, [], ◌∷◌, ◌++◌, Result, Ok, Err}
use Rattle.fol_theory.specs.Syntax.{Term, Formula, implies, all}
use Rattle.fol_theory.specs.Slots.{Slot}
use Rattle.env_theory.specs.Declarations.{Declaration}
use Rattle.env_theory.specs.Heads.{head_form}
use Rattle.logic_theory.specs.Rules.{Rule, step, hyp, known, all_e, imp_e}
use Rattle.tactic_theory.specs.Faults.{Fault}
use Rattle.tactic_theory.specs.Evidence.{Evidence, assumed, declared, with_term, with_proof, shows}

-- the rule by which a formula of this head form is applied to a term
abbrev pub term_rule : Term → Formula → List Rule
term_rule t (all r x b) = step (all_e r b t) ∷ []
term_rule t a = []

-- the rule by which one is applied to other evidence
abbrev pub proof_rule : Formula → List Rule
proof_rule (implies a b) = step (imp_e a) ∷ []
proof_rule a = []

-- the rule for the head form of what is shown
abbrev pub rule_at : List Declaration → (Formula → List Rule) → Result Formula Fault → List Rule
rule_at E rule (Ok a) = rule (head_form E a)
rule_at E rule (Err e) = []

-- the rules in preorder: that of an application stands before the tree of what is applied, and this before that of the evidence it is
-- applied to
abbrev pub tree_of : List Declaration → List Slot → Evidence → List Rule
tree_of E c (assumed i) = step (hyp i) ∷ []
tree_of E c (declared n a) = step (known n) ∷ []
tree_of E c (with_term e s t) = rule_at E (term_rule t) (shows E c e) ++ tree_of E c e
tree_of E c (with_proof e d) = rule_at E proof_rule (shows E c e) ++ (tree_of E c e ++ tree_of E c d)
