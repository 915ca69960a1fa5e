use Rattle.std.proofs.Common.{◌≡◌, length}
use Rattle.vern_grammar.specs.Machine.{whole}
use Rattle.vern_parse.specs.Meaning.{expression, frames}
use Rattle.vern_parse.proofs.reduce.settle.Given as goal

abbrev pub invariant-heads : goal.invariant-heads
invariant-heads l = whole (expression l.fn.value) l.to (frames l.fn.stack) ≡ whole (expression l.value) l.to (frames l.stack)

abbrev pub decreases-heads : goal.decreases-heads
decreases-heads l = length l.stack
