use Rattle.line_theory.proofs.Words as words
use Rattle.line_theory.proofs.Placed as placed
use Rattle.line_theory.proofs.changes.each_change_is_at_one_place.Goals as goal

pub returns-clause-committed : goal.returns-clause-committed
returns-clause-committed c = λ d i. words.committed_front i d

pub returns-clause-committed_back : goal.returns-clause-committed_back
returns-clause-committed_back c = λ d i. words.committed_back i d

pub returns-clause-begun : goal.returns-clause-begun
returns-clause-begun c = λ d i h. words.begun_front i d h

pub returns-clause-begun_back : goal.returns-clause-begun_back
returns-clause-begun_back c = λ d i h. words.begun_back i d h

pub returns-clause-merged : goal.returns-clause-merged
returns-clause-merged c = λ d i q h. words.merged_front i q d h

pub returns-clause-merged_back : goal.returns-clause-merged_back
returns-clause-merged_back c = λ d i q h. words.merged_back i q d h

pub returns-clause-dropped : goal.returns-clause-dropped
returns-clause-dropped c = λ d i n h. (words.dropped_behind i d n h).0

pub returns-clause-dropped_back : goal.returns-clause-dropped_back
returns-clause-dropped_back c = λ d i h. words.dropped_back i d h

pub returns-clause-zoned : goal.returns-clause-zoned
returns-clause-zoned c = λ d i h. words.zoned_behind i d h

pub returns-clause-located : goal.returns-clause-located
returns-clause-located c = placed.locate_is
