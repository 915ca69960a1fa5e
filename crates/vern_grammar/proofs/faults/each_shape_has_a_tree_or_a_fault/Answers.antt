use Rattle.vern_grammar.specs.Grammar.{IsShape}
use Rattle.vern_grammar.proofs.Laws as laws
use Rattle.vern_grammar.proofs.faults.each_shape_has_a_tree_or_a_fault.Goals as goal

pub returns-clause-either : goal.returns-clause-either
returns-clause-either c = laws.shape_or_fault

pub returns-clause-not_both : goal.returns-clause-not_both
returns-clause-not_both c = laws.not_both IsShape

pub returns-clause-one : goal.returns-clause-one
returns-clause-one c = laws.one_fault IsShape
