use Rattle.vern_step.proofs.Trees.{faulty, read, refused, tree}
use Rattle.vern_step.proofs.sentence.parsing_is_by_the_grammar.Goals as goal

pub returns-clause-tree : goal.returns-clause-tree
returns-clause-tree c = tree

pub returns-clause-read : goal.returns-clause-read
returns-clause-read c = read

pub returns-clause-fault : goal.returns-clause-fault
returns-clause-fault c = faulty

pub returns-clause-refused : goal.returns-clause-refused
returns-clause-refused c = refused
