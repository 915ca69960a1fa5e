use Rattle.std.proofs.Common.{length}
use Rattle.term_core.specs.Context.{slots}
use Rattle.term_core.proofs.tests.signs.Given as goal

abbrev pub decreases-loop-slot : goal.decreases-loop-slot
decreases-loop-slot l = length (slots l.at)
