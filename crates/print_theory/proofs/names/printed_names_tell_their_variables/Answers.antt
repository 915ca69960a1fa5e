use Rattle.print_theory.proofs.Apart as apart
use Rattle.print_theory.proofs.names.printed_names_tell_their_variables.Goals as goal

pub returns-clause-variable : goal.returns-clause-variable
returns-clause-variable c = apart.position_of

pub returns-clause-no_variable : goal.returns-clause-no_variable
returns-clause-no_variable c = λ names c. apart.no_position c names

pub returns-clause-distinct : goal.returns-clause-distinct
returns-clause-distinct c = apart.distinct_under

pub returns-clause-apart : goal.returns-clause-apart
returns-clause-apart c = apart.apart_under

pub returns-clause-formula_apart : goal.returns-clause-formula_apart
returns-clause-formula_apart c = apart.formula_apart_under
