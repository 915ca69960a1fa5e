use Rattle.vern_grammar.specs.Grammar.{IsExpression}
use Rattle.vern_grammar.proofs.Laws as laws
use Rattle.vern_grammar.proofs.faults.each_expression_has_a_tree_or_a_fault.Goals as goal

pub returns-clause-either : goal.returns-clause-either
returns-clause-either c = laws.expression_or_fault

pub returns-clause-not_both : goal.returns-clause-not_both
returns-clause-not_both c = laws.not_both IsExpression

pub returns-clause-one : goal.returns-clause-one
returns-clause-one c = laws.one_fault IsExpression
