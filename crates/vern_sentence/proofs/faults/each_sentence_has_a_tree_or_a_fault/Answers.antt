use Rattle.vern_sentence.proofs.Laws as laws
use Rattle.vern_sentence.proofs.faults.each_sentence_has_a_tree_or_a_fault.Goals as goal

pub returns-clause-either : goal.returns-clause-either
returns-clause-either c = laws.tree_or_fault

pub returns-clause-not_both : goal.returns-clause-not_both
returns-clause-not_both c = laws.not_two

pub returns-clause-one : goal.returns-clause-one
returns-clause-one c = laws.single_fault
