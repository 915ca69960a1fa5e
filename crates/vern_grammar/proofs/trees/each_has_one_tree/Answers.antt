use Rattle.vern_grammar.proofs.Laws as laws
use Rattle.vern_grammar.proofs.trees.each_has_one_tree.Goals as goal

pub returns-clause-expression : goal.returns-clause-expression
returns-clause-expression c = laws.one_expression

pub returns-clause-shape : goal.returns-clause-shape
returns-clause-shape c = laws.one_shape
