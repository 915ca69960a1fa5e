use Rattle.vern_grammar.proofs.Closed as laws
use Rattle.vern_grammar.proofs.reach.quantifiers_reach_far.Goals as goal

pub returns-clause-taken : goal.returns-clause-taken
returns-clause-taken c = λ op n o from to ts t. laws.taken op

pub returns-clause-closed : goal.returns-clause-closed
returns-clause-closed c = λ op n o from to ts t. laws.closed op
