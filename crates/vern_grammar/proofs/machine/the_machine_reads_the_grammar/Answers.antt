use Rattle.vern_grammar.proofs.Laws as laws
use Rattle.vern_grammar.proofs.machine.the_machine_reads_the_grammar.Goals as goal

pub returns-clause-expression_read : goal.returns-clause-expression_read
returns-clause-expression_read c = laws.expression_read

pub returns-clause-expression_given : goal.returns-clause-expression_given
returns-clause-expression_given c = laws.expression_given

pub returns-clause-expression_fault : goal.returns-clause-expression_fault
returns-clause-expression_fault c = laws.expression_fault

pub returns-clause-shape_read : goal.returns-clause-shape_read
returns-clause-shape_read c = laws.shape_read

pub returns-clause-shape_given : goal.returns-clause-shape_given
returns-clause-shape_given c = laws.shape_given

pub returns-clause-shape_fault : goal.returns-clause-shape_fault
returns-clause-shape_fault c = laws.shape_fault
