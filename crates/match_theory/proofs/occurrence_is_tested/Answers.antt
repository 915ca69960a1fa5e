use Rattle.match_theory.proofs.Occurring as occurring
use Rattle.match_theory.proofs.occurrence_is_tested.Goals as goal

pub returns-clause-formula : goal.returns-clause-formula
returns-clause-formula c = λ i a. (occurring.formula_occurs i a, occurring.occurs_formula i a)

pub returns-clause-term : goal.returns-clause-term
returns-clause-term c = λ i t. (occurring.term_occurs i t, occurring.occurs_term i t)

pub returns-clause-each : goal.returns-clause-each
returns-clause-each c = occurring.below_all
