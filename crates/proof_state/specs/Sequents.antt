-- The goals of a shared list of sequents.
use Rattle.std.specs.Prelude.{List, [], ◌∷◌}
use Rattle.std.specs.Arc.{arc_value}
use Rattle.logic_theory.specs.Goals.{Goal}
use Rattle.proof_tree.specs.Places.{goal_of}
use Rattle.proof_state.specs.declared.sequents.Sequents.{Sequents}
use Rattle.proof_state.specs.declared.sequents.Sequents.TheOpen.{Sequents-F, Empty, Listed}
use Rattle.proof_state.specs.declared.sequents.Sequents.TheFolds.{fold-Sequents}

-- the goals of a list, from those behind the first
abbrev pub goals_step : Sequents-F (List Goal) → List Goal
goals_step Empty = []
goals_step (Listed i) = goal_of (arc_value i).sequent ∷ (arc_value i).rest

-- the goals of a list, in order
abbrev pub goals_in : Sequents → List Goal
goals_in = fold-Sequents (List Goal) goals_step
