use Rattle.std.proofs.Common.{refl}
use Rattle.fol_theory.proofs.Entries as entries
use Rattle.fol_theory.proofs.Numbers as numbers
use Rattle.fol_theory.proofs.contexts.contexts_grow_and_shrink.Goals as goal

pub returns-clause-variable_variables : goal.returns-clause-variable_variables
returns-clause-variable_variables c = λ s d. refl

pub returns-clause-variable_hypotheses : goal.returns-clause-variable_hypotheses
returns-clause-variable_hypotheses c = λ s d. refl

pub returns-clause-hypothesis_variables : goal.returns-clause-hypothesis_variables
returns-clause-hypothesis_variables c = λ a d. refl

pub returns-clause-hypothesis_hypotheses : goal.returns-clause-hypothesis_hypotheses
returns-clause-hypothesis_hypotheses c = λ a d. refl

pub returns-clause-without_variables : goal.returns-clause-without_variables
returns-clause-without_variables c = entries.without_variables

pub returns-clause-without_hypotheses : goal.returns-clause-without_hypotheses
returns-clause-without_hypotheses c = entries.without_hypotheses

pub returns-clause-count : goal.returns-clause-count
returns-clause-count c = entries.count_hypotheses

pub returns-clause-numbered : goal.returns-clause-numbered
returns-clause-numbered c = λ d i a. (entries.hypothesis_is d i a, entries.is_hypothesis d i a)

pub returns-clause-numbered_once : goal.returns-clause-numbered_once
returns-clause-numbered_once c = numbers.hypothesis_once

pub returns-clause-numbered_below : goal.returns-clause-numbered_below
returns-clause-numbered_below c = numbers.hypothesis_below

pub returns-clause-numbered_all : goal.returns-clause-numbered_all
returns-clause-numbered_all c = numbers.hypothesis_there

pub returns-clause-placed : goal.returns-clause-placed
returns-clause-placed c = numbers.hypothesis_placed

pub returns-clause-without_placed : goal.returns-clause-without_placed
returns-clause-without_placed c = numbers.without_placed
