use Rattle.std.proofs.Common.{sym}
use Rattle.vern_grammar.proofs.Places as laws
use Rattle.vern_grammar.proofs.spans.spans_are_those_of_the_tokens.Goals as goal

pub returns-clause-first : goal.returns-clause-first
returns-clause-first c = λ n o from to g ts t e. sym (laws.operand_first e)

pub returns-clause-last : goal.returns-clause-last
returns-clause-last c = λ n o from to g ts t e. sym (laws.operand_last e)

pub returns-clause-tree : goal.returns-clause-tree
returns-clause-tree c = λ n o from to g ts t e. laws.operand_span e
