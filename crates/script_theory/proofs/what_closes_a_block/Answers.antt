use Rattle.script_theory.proofs.Closed as closed
use Rattle.script_theory.proofs.what_closes_a_block.Goals as goal

pub returns-clause-inner : goal.returns-clause-inner
returns-clause-inner c = closed.inner_leaves

pub returns-clause-closer : goal.returns-clause-closer
returns-clause-closer c = closed.closer_leaves

pub returns-clause-same : goal.returns-clause-same
returns-clause-same c = closed.qed_as_admitted
