-- Stacks of sequents that are still to be shown, and one rule of a tree at the top of a stack.
use Rattle.std.specs.Prelude.{◌≡◌, ℕ, List, [], ◌∷◌, ◌++◌, map, reverse}
use Rattle.fol_theory.specs.Contexts.{Sequent as Meaning}
use Rattle.fol_theory.specs.Slots.{Slot, slot}
use Rattle.logic_theory.specs.Rules.{Step, Rule, leaf, step, children}
use Rattle.logic_theory.specs.Goals.{Goal, goal, label}
use Rattle.term_core.specs.declared.context.Sequent.{Sequent}
use Rattle.term_core.specs.Context.{meaning}

-- the sequents of a stack, from its top
abbrev pub waiting : List Sequent → List Meaning
waiting ps = map meaning (reverse ps)

-- one sequent more is on top
abbrev pub Pushes : Meaning → List Sequent → List Sequent → Type 0
Pushes g old new = waiting new ≡ g ∷ waiting old

-- the sequents that a rule leads to from a place are on top
abbrev pub PushesChildren : Step → Sequent → List Sequent → List Sequent → Type 0
PushesChildren r p old new = waiting new ≡ children r (meaning p).context (meaning p).goal ++ waiting old

-- the sequents that a rule leads to from a place; from an open leaf there are none
abbrev pub led_to : Rule → Meaning → List Meaning
led_to (leaf ns) g = []
led_to (step r) g = children r g.context g.goal

-- the goal that a rule leaves open at a place, if it is an open leaf
abbrev pub left_open : Rule → Meaning → List Goal
left_open (leaf ns) g = goal (label ns g.context) g.goal ∷ []
left_open (step r) g = []

-- ---- at the first of several sequents

-- the rule is so at the first, which is there
abbrev pub AtFirst : (Rule → Meaning → Type 0) → Rule → List Meaning → Type 0
AtFirst P r [] = ⊥
AtFirst P r (g ∷ gs) = P r g

-- what is to be shown behind the rule
abbrev pub behind : Rule → List Meaning → List Meaning
behind r [] = []
behind r (g ∷ gs) = led_to r g ++ gs

-- the goal that it leaves open, if it is an open leaf
abbrev pub opened : Rule → List Meaning → List Goal
opened r [] = []
opened r (g ∷ gs) = left_open r g

-- ---- names

-- a slot with another name
abbrev pub renamed : Slot → List ℕ → Slot
renamed x n = slot n x.entry
