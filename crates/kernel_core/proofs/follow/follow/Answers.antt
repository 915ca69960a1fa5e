use Rattle.std.proofs.Common.{◌≡◌, [], ◌∷◌, drop, map, arith}
use Rattle.std.proofs.lemmas.Grind.{common_steps}
use Rattle.term_core.specs.Context.{meaning}
use Rattle.env_core.specs.Meaning.{declarations}
use Rattle.proof_tree.specs.Meaning.{meanings}
use Rattle.logic_theory.specs.Proofs.{Proves}
use Rattle.kernel_core.proofs.Steps.{ended_behind}
use Rattle.kernel_core.proofs.follow.follow.Goals as goal

pub returns : goal.returns
returns c =
    let none : drop c.loop-i.i c.args.rules.now ≡ [] = grind (arith, common_steps) in
    ended_behind (declarations c.args.env.now) (drop c.loop-i.i c.args.rules.now) c.loop-i.stack.items c.is_done.result
    (Proves (declarations c.args.env.now) (meanings (map (λ r. r.now) c.args.rules.now)) (meaning c.args.place ∷ [])) none
    c.loop-i.invariant.1 c.is_done.ensures
