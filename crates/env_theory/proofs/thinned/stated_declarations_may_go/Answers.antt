use Rattle.env_theory.proofs.Thinning as thinning
use Rattle.env_theory.proofs.thinned.stated_declarations_may_go.Goals as goal

pub returns-clause-normal : goal.returns-clause-normal
returns-clause-normal c = thinning.thinned_normal

pub returns-clause-sort : goal.returns-clause-sort
returns-clause-sort c = thinning.thinned_sort

pub returns-clause-formed : goal.returns-clause-formed
returns-clause-formed c = thinning.thinned_formed

pub returns-clause-other : goal.returns-clause-other
returns-clause-other c = thinning.other_stays

pub returns-clause-none : goal.returns-clause-none
returns-clause-none c = thinning.none_stays

pub returns-clause-kept : goal.returns-clause-kept
returns-clause-kept c = thinning.kept_stays

pub returns-clause-in_order : goal.returns-clause-in_order
returns-clause-in_order c = thinning.thinned_in_order
