use Rattle.std.proofs.Common.{◌≡◌, ◌++◌, length}
use Rattle.proof_tree.specs.Chains.{linked}
use Rattle.proof_tree.proofs.tree.chain_of.Given as goal

abbrev pub invariant-loop-rules : goal.invariant-loop-rules
invariant-loop-rules l = l.rules.items ++ linked l.chain ≡ l.fn.rules.items

abbrev pub decreases-loop-rules : goal.decreases-loop-rules
decreases-loop-rules l = length l.rules.items
