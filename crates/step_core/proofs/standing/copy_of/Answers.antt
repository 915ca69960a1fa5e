use Rattle.std.proofs.Common.{subst}
use Rattle.step_core.specs.Proofs.{IsKeptIf}
use Rattle.step_core.proofs.standing.copy_of.Goals as goal

pub returns-in_ok-copy-in-Some-clause-kept : goal.returns-in_ok-copy-in-Some-clause-kept
returns-in_ok-copy-in-Some-clause-kept c = λ E k. c.in_ok-copy-in-Some.ensures.kept E (subst (IsKeptIf E) c.in-Some.is k)
