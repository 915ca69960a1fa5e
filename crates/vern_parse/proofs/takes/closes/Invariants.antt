use Rattle.std.proofs.Common.{◌≡◌, length}
use Rattle.vern_parse.specs.Answers.{stacked}
use Rattle.vern_parse.specs.Meaning.{frames}
use Rattle.vern_parse.proofs.Taken.{closable}
use Rattle.vern_parse.proofs.takes.closes.Given as goal

abbrev pub invariant-heads : goal.invariant-heads
invariant-heads l = closable (frames (stacked l.frames)) ≡ closable (frames (stacked l.before))

abbrev pub decreases-heads : goal.decreases-heads
decreases-heads l = length l.before
