use Rattle.elab_theory.proofs.Formed as formed
use Rattle.elab_theory.proofs.Sized as sized
use Rattle.elab_theory.proofs.typing.expressions_are_typed.Goals as goal

pub returns-clause-term : goal.returns-clause-term
returns-clause-term c = formed.term_formed

pub returns-clause-formula : goal.returns-clause-formula
returns-clause-formula c = formed.formula_formed

pub returns-clause-nodes : goal.returns-clause-nodes
returns-clause-nodes c = sized.formula_of_nodes

pub returns-clause-height : goal.returns-clause-height
returns-clause-height c = sized.formula_of_height

pub returns-clause-term_nodes : goal.returns-clause-term_nodes
returns-clause-term_nodes c = sized.term_of_nodes

pub returns-clause-term_height : goal.returns-clause-term_height
returns-clause-term_height c = sized.term_of_height
