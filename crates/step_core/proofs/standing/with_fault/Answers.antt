use Rattle.std.proofs.Common.{subst}
use Rattle.step_core.specs.Proofs.{IsKeptIf}
use Rattle.step_core.proofs.standing.with_fault.Goals as goal

pub returns-in-Some-clause-kept : goal.returns-in-Some-clause-kept
returns-in-Some-clause-kept c = λ E k. c.with_fault.ensures.kept E (subst (IsKeptIf E) c.in-Some.is k)
