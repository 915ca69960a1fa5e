-- Sites where a goal is refined.
use Rattle.std.specs.Prelude.{◌≤◌, ℕ, List, [], ◌∷◌, length}
use Rattle.fol_theory.specs.Contexts.{variables}
use Rattle.fol_theory.specs.Slots.{entries}
use Rattle.env_theory.specs.Declarations.{Declaration}
use Rattle.env_theory.specs.Typing.{Environment}
use Rattle.logic_theory.specs.Goals.{Goal, sequent}
use Rattle.logic_theory.specs.Rules.{Formed}
use Rattle.env_core.specs.Meaning.{declarations}
use Rattle.proof_tree.specs.Places.{goal_of}
use Rattle.tac_base.specs.declared.site.Site.{Site}

-- the declarations
abbrev pub env_of : Site → List Declaration
env_of s = declarations s.env.now

-- the goal
abbrev pub goal_at : Site → Goal
goal_at s = goal_of s.goal.now

-- an environment, and a well formed goal over it of at most so many variables
pub record IsSite (E : List Declaration) (g : Goal) (n : ℕ) : Type 0 where
  pub environment : Environment E
  pub formed : Formed E (sequent g)
  pub counted : length (variables (entries g.slots)) ≤ n

-- a site is one
abbrev pub IsReady : Site → Type 0
IsReady s = IsSite (env_of s) (goal_at s) s.variables

-- the first of these goals is well formed, if there is one
abbrev pub FirstFormed : List Declaration → List Goal → Type 0
FirstFormed E [] = Unit {0}
FirstFormed E (g ∷ gs) = Formed E (sequent g)
