use Rattle.std.proofs.Common.{◌≡◌, ◌++◌, map, reverse, take}
use Rattle.logic_theory.specs.Rules.{leaf}
use Rattle.proof_tree.specs.Meaning.{meanings}
use Rattle.term_core.specs.Formula.{meaning}
use Rattle.strip_core.proofs.tree.push_leaves.Given as goal

abbrev pub invariant-loop : goal.invariant-loop
invariant-loop l = meanings l.all.items
    ≡ meanings l.initial.all.items ++ map (λ p. leaf (reverse l.names)) (map meaning (take l.index l.premises))
