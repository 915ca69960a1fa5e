use Rattle.std.proofs.Common.{◌≡◌, ◌++◌, map}
use Rattle.std.specs.Arc.{arc_value}
use Rattle.proof_tree.specs.Chains.{linked}
use Rattle.proof_tree.proofs.chain.Chain.push_all.Given as goal

abbrev pub invariant-loop-at : goal.invariant-loop-at
invariant-loop-at l = linked l.first ≡ map (λ r. arc_value r.now) l.rules.items ++ linked l.at
