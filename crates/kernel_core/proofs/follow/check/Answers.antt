use Rattle.std.proofs.Common.{rules, ◌≡◌, map, subst}
use Rattle.term_core.specs.Context as context
use Rattle.env_core.specs.Meaning.{declarations}
use Rattle.proof_tree.specs.Meaning.{meanings}
use Rattle.logic_theory.specs.Proofs.{IsProof}
use Rattle.kernel_core.proofs.Steps.{proof_holds}
use Rattle.kernel_core.proofs.follow.check.Goals as goal

pub returns-clause-derivation : goal.returns-clause-derivation
returns-clause-derivation c =
    let e : map (λ r. r.now) c.deref.result.now ≡ c.args.tree.now = search rules in
    let E = declarations c.args.env.now in
    λ t. proof_holds E (meanings c.args.tree.now) (context.meaning c.args.sequent.now) c.requires
    (subst (IsProof E (meanings c.args.tree.now)) c.in_ok-copy.ensures.meaning
    (subst (λ rs. IsProof E (meanings rs) (context.meaning c.in_ok-copy.field-0)) e (c.in_ok-proved.ensures.0 t)))
