-- The frames of a stack, and what is told of a frame that is looked for on it.
use Rattle.std.specs.Prelude.{Bool, true, ◌&&◌, ℕ, List, [], ◌∷◌, Option, Some, None, Result, Ok, Err}
use Rattle.std.specs.Arc.{arc_value}
use Rattle.logic_theory.specs.Goals.{Goal}
use Rattle.tactic_theory.specs.States as theory
use Rattle.proof_state.specs.declared.frames.Frames.{Frames}
use Rattle.proof_state.specs.declared.frames.Frames.TheOpen.{Frames-F, Bottom, Over}
use Rattle.proof_state.specs.declared.frames.Frames.TheFolds.{fold-Frames}
use Rattle.proof_state.specs.declared.frames.Found.{Found}
use Rattle.proof_state.specs.Marks.{mark_of}
use Rattle.proof_state.specs.Sequents.{goals_in}

-- the frames of a stack, from those below the newest
abbrev pub frames_step : Frames-F (List theory.Frame) → List theory.Frame
frames_step Bottom = []
frames_step (Over f) = theory.frame (mark_of (arc_value f).mark) (goals_in (arc_value f).behind) ∷ (arc_value f).below

-- the frames of a stack, the newest first
abbrev pub frames_in : Frames → List theory.Frame
frames_in = fold-Frames (List theory.Frame) frames_step

-- ---- a frame that is found, where the frames above it are told by whether goals are behind them

pub record Seen : Type 0 where
  pub none_above : Bool
  pub behind : List Goal
  pub below : List theory.Frame

-- what is seen, from its parts
abbrev pub sight : Bool → List Goal → List theory.Frame → Seen
sight b gs fs = record { none_above = b; behind = gs; below = fs }

-- what is seen of a frame that is found under further frames, which b tells of
abbrev pub seen : Bool → Option theory.Found → Option Seen
seen b None = None
seen b (Some w) = Some (sight (b && theory.none_behind w.above) w.behind w.below)

-- what one that was found tells
abbrev pub told : Found → Seen
told w = sight w.none_above (goals_in w.behind.now) (frames_in w.below.now)

-- the next goal behind a bullet that is seen
abbrev pub next_seen : List ℕ → List Goal → Seen → Result theory.State theory.StepFault
next_seen b gs w = next_from b gs w.none_above w.behind w.below
  where
    next_from : List ℕ → List Goal → Bool → List Goal → List theory.Frame → Result theory.State theory.StepFault
    next_from b [] true (g ∷ gs) fs = Ok (theory.state (g ∷ []) (theory.frame (theory.bullet b) gs ∷ fs))
    next_from b hs v gs fs = Err theory.bad_bullet

-- the goals behind a brace that is seen
abbrev pub seen_goals : List Goal → Seen → Result theory.State theory.StepFault
seen_goals gs w = goals_from gs w.none_above w.behind w.below
  where
    goals_from : List Goal → Bool → List Goal → List theory.Frame → Result theory.State theory.StepFault
    goals_from [] true gs fs = Ok (theory.state gs fs)
    goals_from hs v gs fs = Err theory.bad_bullet
