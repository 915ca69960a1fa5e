use Rattle.fol_theory.proofs.Laws as laws
use Rattle.fol_theory.proofs.AtIndex as indices
use Rattle.fol_theory.proofs.substitution.substitutions_compose.Goals as goal

pub returns-clause-twice : goal.returns-clause-twice
returns-clause-twice c = laws.replace_twice

pub returns-clause-term_twice : goal.returns-clause-term_twice
returns-clause-term_twice c = laws.term_twice

pub returns-clause-lift_twice : goal.returns-clause-lift_twice
returns-clause-lift_twice c = laws.lift_twice

pub returns-clause-identity : goal.returns-clause-identity
returns-clause-identity c = laws.replace_identity

pub returns-clause-term_identity : goal.returns-clause-term_identity
returns-clause-term_identity c = laws.term_identity

pub returns-clause-lift_identity : goal.returns-clause-lift_identity
returns-clause-lift_identity c = laws.lift_identity

pub returns-clause-under : goal.returns-clause-under
returns-clause-under c = laws.replace_under

pub returns-clause-instantiate : goal.returns-clause-instantiate
returns-clause-instantiate c = laws.replace_instantiate

pub returns-clause-unused : goal.returns-clause-unused
returns-clause-unused c = laws.instantiate_under

pub returns-clause-lift_raise : goal.returns-clause-lift_raise
returns-clause-lift_raise c = indices.lift_raise

pub returns-clause-lift_put : goal.returns-clause-lift_put
returns-clause-lift_put c = indices.lift_put

pub returns-clause-next : goal.returns-clause-next
returns-clause-next c = indices.next_raise

pub returns-clause-first : goal.returns-clause-first
returns-clause-first c = indices.first_put

pub returns-clause-shift_all : goal.returns-clause-shift_all
returns-clause-shift_all c = indices.shift_all

pub returns-clause-shift_ex : goal.returns-clause-shift_ex
returns-clause-shift_ex c = indices.shift_ex

pub returns-clause-substitute_all : goal.returns-clause-substitute_all
returns-clause-substitute_all c = indices.substitute_all

pub returns-clause-substitute_ex : goal.returns-clause-substitute_ex
returns-clause-substitute_ex c = indices.substitute_ex

pub returns-clause-each : goal.returns-clause-each
returns-clause-each c = laws.replace_each

pub returns-clause-terms_injective : goal.returns-clause-terms_injective
returns-clause-terms_injective c = laws.terms_injective
