use Rattle.vern_lex.proofs.Alone.{spans_alone}
use Rattle.vern_lex.proofs.Between.{spans_between, spans_left}
use Rattle.vern_lex.proofs.Cutting.{spans_rise, spans_each, spans_rest}
use Rattle.vern_lex.proofs.Endings.{spans_whole}
use Rattle.vern_lex.proofs.Faults.{spans_faulted}
use Rattle.vern_lex.proofs.sentences.spans_are_of_sentences.Goals as goal

pub returns-clause-rise : goal.returns-clause-rise
returns-clause-rise c = spans_rise

pub returns-clause-each : goal.returns-clause-each
returns-clause-each c = spans_each

pub returns-clause-rest : goal.returns-clause-rest
returns-clause-rest c = spans_rest

pub returns-clause-alone : goal.returns-clause-alone
returns-clause-alone c = spans_alone

pub returns-clause-between : goal.returns-clause-between
returns-clause-between c = spans_between

pub returns-clause-left : goal.returns-clause-left
returns-clause-left c = spans_left

pub returns-clause-faulted : goal.returns-clause-faulted
returns-clause-faulted c = spans_faulted

pub returns-clause-whole : goal.returns-clause-whole
returns-clause-whole c = spans_whole
