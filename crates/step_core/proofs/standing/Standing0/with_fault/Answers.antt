use Rattle.env_core.specs.Meaning.{declarations}
use Rattle.step_core.proofs.standing.Standing0.with_fault.Goals as goal

pub invariant_of-result : goal.invariant_of-result
invariant_of-result c = c.with_fault.ensures.kept (declarations c.self.inside.env) c.self.invariant
