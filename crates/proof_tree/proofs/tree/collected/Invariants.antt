use Rattle.std.proofs.Common.{◌≡◌, ◌++◌, map}
use Rattle.proof_tree.specs.Chains.{linked}
use Rattle.proof_tree.proofs.tree.collected.Given as goal

abbrev pub invariant-loop-at : goal.invariant-loop-at
invariant-loop-at l = map (λ r. r.now) l.all.items ++ linked l.at ≡ map (λ r. r.now) l.fn.all.items ++ linked l.chain
