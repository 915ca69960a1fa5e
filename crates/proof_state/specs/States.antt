-- What a state stands for, and what it is that a state fits.
use Rattle.std.specs.Prelude.{◌≡◌, List, [], ◌∷◌, ◌++◌}
use Rattle.fol_theory.specs.Contexts.{Sequent}
use Rattle.env_theory.specs.Declarations.{Declaration}
use Rattle.logic_theory.specs.Rules.{Rule, Follows}
use Rattle.logic_theory.specs.Goals.{Goal, sequent, goals}
use Rattle.tactic_theory.specs.States as theory
use Rattle.proof_tree.specs.Meaning.{meanings}
use Rattle.proof_tree.specs.Places.{AtPlaces}
use Rattle.proof_state.specs.declared.state.State.{State}
use Rattle.proof_state.specs.Goals.{stands_for}

-- the focused goals and the frames of a state
abbrev pub state_of : State → theory.State
state_of s = stands_for s.goals

-- the rules of its tree
abbrev pub rules_of : State → List Rule
rules_of s = meanings s.tree

-- The tree follows the kernel's rules from the goal over the environment, and what it leaves open are the goals of the
-- state: the focused ones first, then those behind each frame, from the newest on.
abbrev pub Fits : List Declaration → Goal → State → Type 0
Fits E g s = Follows E (rules_of s) (sequent g ∷ []) × (goals (rules_of s) (sequent g ∷ []) ≡ theory.goals_of (state_of s))

-- a goal is focused, the rules are one whole tree for it, and each is so at its place
abbrev pub FromFirst : (Rule → Sequent → Type 0) → List Rule → List Goal → Type 0
FromFirst P rs [] = ⊥
FromFirst P rs (g ∷ gs) = AtPlaces P rs (sequent g ∷ [])

-- the goals that rules leave open from the first goal on, and then the others
abbrev pub refined : List Rule → List Goal → List Goal
refined rs [] = []
refined rs (g ∷ gs) = goals rs (sequent g ∷ []) ++ gs
