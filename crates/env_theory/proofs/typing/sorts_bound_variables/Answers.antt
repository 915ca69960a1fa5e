use Rattle.env_theory.proofs.Sorts as sorts
use Rattle.env_theory.proofs.typing.sorts_bound_variables.Goals as goal

pub returns-clause-term : goal.returns-clause-term
returns-clause-term c = sorts.sort_reach

pub returns-clause-range : goal.returns-clause-range
returns-clause-range c = sorts.formula_range

pub returns-clause-reach : goal.returns-clause-reach
returns-clause-reach c = sorts.formula_reach
