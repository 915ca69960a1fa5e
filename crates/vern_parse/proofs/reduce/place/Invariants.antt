use Rattle.std.proofs.Common.{◌≡◌, length, true}
use Rattle.vern_grammar.specs.Machine.{place}
use Rattle.vern_parse.specs.Meaning.{expression, frames, operator}
use Rattle.vern_parse.proofs.reduce.place.Given as goal

abbrev pub invariant-heads : goal.invariant-heads
invariant-heads l = place (operator l.op) l.fits (expression l.value) l.from l.to (frames l.stack)
    ≡ place (operator l.op) true (expression l.fn.value) l.fn.from l.to (frames l.fn.stack)

abbrev pub decreases-heads : goal.decreases-heads
decreases-heads l = length l.stack
