use Rattle.std.proofs.Common.{◌≡◌, ◌++◌, map, length}
use Rattle.std.specs.Arc.{arc_value}
use Rattle.proof_tree.specs.Chains.{linked}
use Rattle.proof_tree.proofs.chain.Chain.push_each.Given as goal

abbrev pub invariant-loop-rule : goal.invariant-loop-rule
invariant-loop-rule l =
    map (λ r. arc_value r.now) l.rules.items ++ linked l.chain ≡ map (λ r. arc_value r.now) l.fn.rules.items ++ linked l.fn.self

abbrev pub decreases-loop-rule : goal.decreases-loop-rule
decreases-loop-rule l = length l.rules.items
