use Rattle.std.proofs.Common.{◌≡◌, length}
use Rattle.proof_tree.proofs.tests.names.Given as goal

abbrev pub invariant-loop-letter : goal.invariant-loop-letter
invariant-loop-letter l = length l.names.items ≡ l.letter-index
