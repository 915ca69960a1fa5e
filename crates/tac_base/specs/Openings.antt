-- What is made for a refinement, and that it is what the table wants.
use Rattle.std.specs.Prelude.{◌≡◌, ℕ, List, [], ◌∷◌, ◌++◌, map, flat_map, Option, Some, None, Result, Ok, Err}
use Rattle.fol_theory.specs.Syntax.{Formula}
use Rattle.fol_theory.specs.Slots.{Slot, names}
use Rattle.base_core.specs.Answers.{and_then}
use Rattle.env_theory.specs.Declarations.{Declaration}
use Rattle.env_theory.specs.Typing.{WellFormed}
use Rattle.logic_theory.specs.Rules.{Rule, leaf, Follows}
use Rattle.logic_theory.specs.Goals.{Goal, sequent, goals}
use Rattle.tactic_theory.specs.Faults.{Fault, too_large}
use Rattle.tactic_theory.specs.Refinements.{Part, opened, put_in, first_large, limited}
use Rattle.script_theory.specs.Sizes.{large}
use Rattle.term_core.specs.Formula.{meaning}
use Rattle.proof_tree.specs.Meaning.{meanings}
use Rattle.tac_base.specs.declared.fault.TacFault.{TacFault}
use Rattle.tac_base.specs.declared.opening.Opening.{Opening}
use Rattle.tac_base.specs.declared.opening.Draft.{Draft}
use Rattle.tac_base.specs.Faults.{Refuses}

-- rules from a goal on, and the formulas that they put into new goals, in the order in which these are measured
pub record Made : Type 0 where
  pub rules : List Rule
  pub formulas : List Formula

-- the same from its parts
abbrev pub made : List Rule → List Formula → Made
made rs ls = record { rules = rs; formulas = ls }

-- what is made stands for this
abbrev pub opening : Opening → Made
opening o = made (meanings o.tree) (map meaning o.put_in.items)

-- the same of what isn't whole yet
abbrev pub drafted : Draft → Made
drafted d = made (meanings d.rules.items) (map meaning d.put_in.items)

-- a rule more
abbrev pub with_rule : Rule → Made → Made
with_rule r m = made (m.rules ++ r ∷ []) m.formulas

-- a formula more
abbrev pub with_formula : Formula → Made → Made
with_formula a m = made m.rules (m.formulas ++ a ∷ [])

-- a goal more, over slots of which these are new
abbrev pub with_goal : List (List ℕ) → List Slot → Formula → Made → Made
with_goal ns c a m = made (m.rules ++ leaf (ns ++ names c) ∷ []) (m.formulas ++ a ∷ [])

-- the rules follow from the goal and leave these parts open, and the formulas are those that the parts put in
pub record Opens (E : List Declaration) (g : Goal) (ps : List Part) (m : Made) : Type 0 where
  pub follows : Follows E m.rules (sequent g ∷ [])
  pub leaves : goals m.rules (sequent g ∷ []) ≡ map opened ps
  pub formulas : m.formulas ≡ flat_map put_in ps

-- the formula is over some variables
abbrev pub IsFormula : List Declaration → Formula → Type 0
IsFormula E a = (V : List (List ℕ)) × WellFormed E V a

-- ---- limits

-- the goals, or the fault of the formula that is too large
abbrev pub unless_large : Option (ℕ × ℕ) → List Goal → Result (List Goal) Fault
unless_large None gs = Ok gs
unless_large (Some w) gs = Err (too_large w.0 w.1)

-- the goals that are left open, where no formula is too large
abbrev pub left_by : List Declaration → Goal → Made → Result (List Goal) Fault
left_by E g m = unless_large (first_large (large E) m.formulas) (goals m.rules (sequent g ∷ []))

-- the goals of the parts that are wanted, where no formula that they put in is too large
abbrev pub measured : List Declaration → Result (List Part) Fault → Result (List Goal) Fault
measured E wanted = and_then wanted (λ ps. limited (first_large (large E) (flat_map put_in ps)) ps)

-- What is made opens the goal to the parts that are wanted; else the fault is the first that the refinement meets, limits with it.
abbrev pub Answers : List Declaration → Goal → Result Opening TacFault → Result (List Part) Fault → Type 0
Answers E g (Ok o) wanted = (ps : List Part) × (wanted ≡ Ok ps) × Opens E g ps (opening o)
Answers E g (Err e) wanted = Refuses (λ f. f) e (measured E wanted)
