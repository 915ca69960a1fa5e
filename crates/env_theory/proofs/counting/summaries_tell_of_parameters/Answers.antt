use Rattle.env_theory.proofs.Summaries as summaries
use Rattle.env_theory.proofs.counting.summaries_tell_of_parameters.Goals as goal

pub returns-clause-own : goal.returns-clause-own
returns-clause-own c = summaries.own_nothing

pub returns-clause-variable : goal.returns-clause-variable
returns-clause-variable c = summaries.own_variable

pub returns-clause-uses : goal.returns-clause-uses
returns-clause-uses c = summaries.variable_uses
