use Rattle.elab_theory.proofs.Admitted as admitted
use Rattle.elab_theory.proofs.Ordered as ordered
use Rattle.elab_theory.proofs.typing.sentences_are_admitted.Goals as goal

pub returns-clause-declaration : goal.returns-clause-declaration
returns-clause-declaration c = admitted.declaration_admitted

pub returns-clause-definition : goal.returns-clause-definition
returns-clause-definition c = admitted.definition_admitted

pub returns-clause-statement : goal.returns-clause-statement
returns-clause-statement c = admitted.statement_admitted

pub returns-clause-declaration_named : goal.returns-clause-declaration_named
returns-clause-declaration_named c = λ E x y d e. (ordered.declaration_is_of E x y d e).0

pub returns-clause-definition_named : goal.returns-clause-definition_named
returns-clause-definition_named c = λ E x gs r a d e. (ordered.definition_is_of E x gs r a d e).0

pub returns-clause-declaration_in_order : goal.returns-clause-declaration_in_order
returns-clause-declaration_in_order c = λ E o x n y d e. ordered.declaration_ordered E o x n y d e

pub returns-clause-definition_in_order : goal.returns-clause-definition_in_order
returns-clause-definition_in_order c = λ E o x n gs r a d e. ordered.definition_ordered E o x n gs r a d e

pub returns-clause-statement_in_order : goal.returns-clause-statement_in_order
returns-clause-statement_in_order c = λ E o x n a b e. ordered.statement_ordered E o x n a b e
