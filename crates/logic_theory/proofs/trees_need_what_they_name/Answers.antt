use Rattle.logic_theory.proofs.ThinnedTrees as thinned_trees
use Rattle.logic_theory.proofs.trees_need_what_they_name.Goals as goal

pub returns : goal.returns
returns c = λ keep E rs gs u p. thinned_trees.follows_kept keep E rs gs u p
