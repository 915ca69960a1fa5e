use Rattle.std.proofs.Common.{◌≡◌, length}
use Rattle.vern_grammar.specs.Machine.{close}
use Rattle.vern_parse.specs.Meaning.{expression, frames}
use Rattle.vern_parse.proofs.reduce.close.Given as goal

abbrev pub invariant-frames : goal.invariant-frames
invariant-frames l = close (expression l.value) l.to l.behind (frames l.stack)
    ≡ close (expression l.fn.value) l.to l.behind (frames l.fn.stack)

abbrev pub decreases-frames : goal.decreases-frames
decreases-frames l = length l.stack
