use Rattle.vern_sentence.proofs.Laws as laws
use Rattle.vern_sentence.proofs.trees.each_sentence_has_one_tree.Goals as goal

pub returns : goal.returns
returns c = laws.one_tree
