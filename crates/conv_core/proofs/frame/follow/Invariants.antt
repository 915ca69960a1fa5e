use Rattle.std.proofs.Common.{◌≡◌, ◌+◌, ◌<◌, ◌≤◌, ◌^◌, length}
use Rattle.env_theory.specs.Machine.{leads, Holds, unders}
use Rattle.conv_core.specs.Frames.{scope_of}
use Rattle.conv_core.proofs.frame.follow.Given as goal

abbrev pub invariant-loop-scope : goal.invariant-loop-scope
invariant-loop-scope l =
    (leads (scope_of l.frames l.scope) l.by l.index ≡ leads (scope_of l.frames l.fn.scope) l.fn.by l.fn.index) ×
    (l.scope ≤ length l.frames) × Holds (scope_of l.frames l.scope) l.index ×
    (l.by + unders (scope_of l.frames l.scope) < 2 ^ 64)

abbrev pub decreases-loop-scope : goal.decreases-loop-scope
decreases-loop-scope l = l.scope
