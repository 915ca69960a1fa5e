use Rattle.tactic_theory.proofs.Apart as apart
use Rattle.tactic_theory.proofs.Fresh as names
use Rattle.tactic_theory.proofs.Typed as typed
use Rattle.tactic_theory.proofs.names_are_kept_apart.Goals as goal

pub returns-clause-apart : goal.returns-clause-apart
returns-clause-apart c = λ E d g a l r ps e. apart.row_apart E d g a l r ps e

pub returns-clause-fresh : goal.returns-clause-fresh
returns-clause-fresh c = names.fresh_free

pub returns-clause-evidence : goal.returns-clause-evidence
returns-clause-evidence c = typed.evidence_typed

pub returns-clause-arguments : goal.returns-clause-arguments
returns-clause-arguments c = λ E o g f x r e. typed.refinement_typed E o g f x r e
