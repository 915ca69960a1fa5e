use Rattle.term_core.specs.Term.{meaning}
use Rattle.env_theory.specs.Machine.{left}
use Rattle.env_core.specs.Meaning.{declarations}
use Rattle.conv_core.specs.Frames.{scope_of}
use Rattle.conv_core.specs.Heads.{Standing, Onward}
use Rattle.conv_core.proofs.head.head_of.Given as goal

abbrev pub invariant-loop-t : goal.invariant-loop-t
invariant-loop-t l =
    Standing (declarations l.env) l.frames.items l.scope l.by (meaning l.t) ×
    Onward (declarations l.env) l.fn.frames.items (scope_of l.fn.frames.items l.fn.scope) l.fn.by
    (meaning l.fn.term) l.frames.items l.scope l.by (meaning l.t)

abbrev pub decreases-loop-t : goal.decreases-loop-t
decreases-loop-t l = left (declarations l.env) (scope_of l.frames.items l.scope) (meaning l.t)
