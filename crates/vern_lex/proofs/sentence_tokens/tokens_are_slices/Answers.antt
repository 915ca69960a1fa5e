use Rattle.vern_lex.proofs.Lexing.{tokens_rise, tokens_each, tokens_only_gaps}
use Rattle.vern_lex.proofs.Spelled.{tokens_spelled}
use Rattle.vern_lex.proofs.sentence_tokens.tokens_are_slices.Goals as goal

pub returns-clause-rise : goal.returns-clause-rise
returns-clause-rise c = tokens_rise

pub returns-clause-each : goal.returns-clause-each
returns-clause-each c = tokens_each

pub returns-clause-between : goal.returns-clause-between
returns-clause-between c = tokens_only_gaps

pub returns-clause-spelled : goal.returns-clause-spelled
returns-clause-spelled c = tokens_spelled
