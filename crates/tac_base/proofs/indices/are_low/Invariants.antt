use Rattle.std.proofs.Common.{◌^◌, map, drop}
use Rattle.proof_tree.specs.Bounds.{AreBelow}
use Rattle.proof_tree.specs.Meaning.{meanings}
use Rattle.tac_base.proofs.indices.are_low.Given as goal

abbrev pub invariant-loop-i : goal.invariant-loop-i
invariant-loop-i l = AreBelow (2 ^ 32) (meanings (map (λ r. r.now) (drop l.i l.rules))) → AreBelow (2 ^ 32) (meanings (map (λ r. r.now) l.rules))
