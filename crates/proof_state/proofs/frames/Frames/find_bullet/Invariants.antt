use Rattle.std.proofs.Common.{◌≡◌, true}
use Rattle.tactic_theory.specs.States.{find_bullet}
use Rattle.proof_state.specs.Marks.{bytes}
use Rattle.proof_state.specs.Frames.{frames_in, seen}
use Rattle.proof_state.proofs.frames.Frames.find_bullet.Given as goal

abbrev pub invariant-loop-at : goal.invariant-loop-at
invariant-loop-at l =
    seen l.none_above (find_bullet (bytes l.bullet) (frames_in l.at)) ≡ seen true (find_bullet (bytes l.bullet) (frames_in l.self))
