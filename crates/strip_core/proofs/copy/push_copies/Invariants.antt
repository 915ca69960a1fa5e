use Rattle.std.proofs.Common.{◌≡◌, ◌++◌, map, take, drop}
use Rattle.logic_theory.specs.Rules.{Every}
use Rattle.proof_tree.specs.Meaning.{meanings}
use Rattle.strip_core.specs.Trees.{IsOfEvidence}
use Rattle.strip_core.proofs.copy.push_copies.Given as goal

abbrev pub invariant-loop-rule : goal.invariant-loop-rule
invariant-loop-rule l = record {
  copied : meanings l.all.items ≡ meanings l.initial.all.items ++ meanings (map (λ r. r.now) (take l.rule-index l.rules));
  others : Every IsOfEvidence (meanings (map (λ r. r.now) (drop l.rule-index l.rules)));
}
