use Rattle.std.proofs.Common.{◌≡◌, take, length, map}
use Rattle.term_core.specs.Term.{meaning}
use Rattle.term_core.proofs.term.+same.Given as goal

abbrev pub invariant-same_all-loop-i : goal.invariant-same_all-loop-i
invariant-same_all-loop-i l = (length l.xs ≡ length l.ys) × (map meaning (take l.i l.xs) ≡ map meaning (take l.i l.ys))
