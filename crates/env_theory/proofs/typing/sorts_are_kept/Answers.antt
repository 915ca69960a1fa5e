use Rattle.env_theory.proofs.Weaker as weaker
use Rattle.env_theory.proofs.Sorts as sorts
use Rattle.env_theory.proofs.Skips as skips
use Rattle.env_theory.proofs.Declared as declared
use Rattle.env_theory.proofs.typing.sorts_are_kept.Goals as goal

pub returns-clause-grown_sort : goal.returns-clause-grown_sort
returns-clause-grown_sort c = weaker.has_sort

pub returns-clause-grown : goal.returns-clause-grown
returns-clause-grown c = weaker.well_formed

pub returns-clause-replace_sort : goal.returns-clause-replace_sort
returns-clause-replace_sort c = sorts.replace_sort

pub returns-clause-replace : goal.returns-clause-replace
returns-clause-replace c = sorts.replace_formed

pub returns-clause-closed : goal.returns-clause-closed
returns-clause-closed c = skips.closed

pub returns-clause-unique : goal.returns-clause-unique
returns-clause-unique c = sorts.sort_unique

pub returns-clause-declared : goal.returns-clause-declared
returns-clause-declared c = declared.sort_declared
