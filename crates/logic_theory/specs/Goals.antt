-- Goals as a user sees them, whose entries have names; the open leaves of a tree with their names; trees that lead from goals to goals.
use Rattle.std.specs.Prelude.{◌≡◌, ℕ, List, [], ◌∷◌, ◌++◌}
use Rattle.fol_theory.specs.Syntax.{Formula}
use Rattle.fol_theory.specs.Contexts.{Entry, Sequent}
use Rattle.fol_theory.specs.Slots.{Slot, slot, entries}
use Rattle.env_theory.specs.Declarations.{Declaration}
use Rattle.logic_theory.specs.Rules.{Rule, leaf, step, seq, children, Follows}

-- the slots, the newest first, and what is to be shown
pub record Goal : Type 0 where
  pub slots : List Slot
  pub shown : Formula

-- a goal from its parts
abbrev pub goal : List Slot → Formula → Goal
goal c a = record { slots = c; shown = a }

-- a goal without its names
abbrev pub sequent : Goal → Sequent
sequent g = seq (entries g.slots) g.shown

-- the entries with names put on
abbrev pub label : List (List ℕ) → List Entry → List Slot
label [] c = []
label (n ∷ ns) [] = []
label (n ∷ ns) (e ∷ c) = slot n e ∷ label ns c

-- the open leaves in preorder, with the names that they carry
abbrev pub goals : List Rule → List Sequent → List Goal
goals [] gs = []
goals (r ∷ rs) [] = []
goals (leaf ns ∷ rs) (g ∷ gs) = goal (label ns g.context) g.goal ∷ goals rs gs
goals (step r ∷ rs) (g ∷ gs) = goals rs (children r g.context g.goal ++ gs)

-- trees of kernel rules, one for each sequent in order, whose open leaves are these goals
pub record Leads (E : List Declaration) (gs : List Sequent) (hs : List Goal) : Type 0 where
  pub tree : List Rule
  pub follows : Follows E tree gs
  pub leaves : goals tree gs ≡ hs

-- a tree of kernel rules leads from the goal to these goals
abbrev pub Opens : List Declaration → Goal → List Goal → Type 0
Opens E g hs = Leads E (sequent g ∷ []) hs
