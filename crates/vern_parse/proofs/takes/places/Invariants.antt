use Rattle.std.proofs.Common.{◌≡◌, length, true}
use Rattle.vern_grammar.specs.Machine.{depth}
use Rattle.vern_parse.specs.Answers.{stacked}
use Rattle.vern_parse.specs.Meaning.{frames, operator}
use Rattle.vern_parse.proofs.Taken.{placeable}
use Rattle.vern_parse.proofs.takes.places.Given as goal

abbrev pub invariant-heads : goal.invariant-heads
invariant-heads l = (placeable (operator l.op) true (frames (stacked l.frames)) ≡ placeable (operator l.op) l.fits (frames (stacked l.before)))
    × (l.depth ≡ depth (frames (stacked l.before)))

abbrev pub decreases-heads : goal.decreases-heads
decreases-heads l = length l.before
