use Rattle.std.proofs.Common.{sym, subst}
use Rattle.env_core.specs.Meaning.{declarations}
use Rattle.step_core.specs.Proofs.{IsKeptIf}
use Rattle.step_core.proofs.standing.Standing0.copy.Goals as goal

pub invariant_of-result : goal.invariant_of-result
invariant_of-result c = subst (λ ds. IsKeptIf (declarations ds) c.in_ok-proof.proof) (sym c.in_ok-env.ensures)
    (c.in_ok-proof.ensures.kept (declarations c.self.inside.env) c.self.invariant)
