use Rattle.std.proofs.Common.{◌↔◌, [], ◌∷◌, drop, map}
use Rattle.term_core.specs.Context.{meaning}
use Rattle.env_core.specs.Meaning.{declarations}
use Rattle.proof_tree.specs.Meaning.{meanings}
use Rattle.proof_tree.specs.Stacks.{waiting}
use Rattle.logic_theory.specs.Proofs.{Proves}
use Rattle.kernel_core.specs.Stacks.{AreReady}
use Rattle.kernel_core.proofs.follow.follow.Given as goal

abbrev pub invariant-loop-i : goal.invariant-loop-i
invariant-loop-i l = AreReady (declarations l.env) l.most (waiting l.stack.items)
    × (Proves (declarations l.env) (meanings (map (λ r. r.now) (drop l.i l.rules))) (waiting l.stack.items)
    ↔ Proves (declarations l.env) (meanings (map (λ r. r.now) l.rules)) (meaning l.fn.place ∷ []))
