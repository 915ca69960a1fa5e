use Rattle.std.proofs.Common.{◌≡◌, map, take}
use Rattle.term_core.specs.Term.{meaning}
use Rattle.match_core.proofs.change.copies.Given as goal

abbrev pub invariant-loop-t : goal.invariant-loop-t
invariant-loop-t l = map meaning l.made.items ≡ map meaning (take l.t-index l.ts)
