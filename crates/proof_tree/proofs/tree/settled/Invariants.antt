use Rattle.std.proofs.Common.{◌≡◌, length}
use Rattle.proof_tree.specs.Chains.{linked, onto, AreSteps}
use Rattle.proof_tree.proofs.tree.settled.Given as goal

abbrev pub invariant-loop-rest : goal.invariant-loop-rest
invariant-loop-rest l = AreSteps (linked l.closed) × (onto (linked l.closed) (linked l.rest) ≡ onto (linked l.fn.closed) (linked l.fn.rest))

abbrev pub decreases-loop-rest : goal.decreases-loop-rest
decreases-loop-rest l = length (linked l.rest)
