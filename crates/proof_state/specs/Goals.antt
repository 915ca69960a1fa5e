-- The state of the theory that goals stand for.
use Rattle.tactic_theory.specs.States.{State, state}
use Rattle.proof_state.specs.declared.goals.Goals.{Goals}
use Rattle.proof_state.specs.Sequents.{goals_in}
use Rattle.proof_state.specs.Frames.{frames_in}

-- the focused goals and the frames
abbrev pub stands_for : Goals → State
stands_for g = state (goals_in g.focused) (frames_in g.frames)
