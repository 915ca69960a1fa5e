use Rattle.doc_theory.proofs.Posted as posted
use Rattle.doc_theory.proofs.Ids as ids
use Rattle.doc_theory.proofs.numbers.numbers_are_counted.Goals as goal

pub returns-clause-counted : goal.returns-clause-counted
returns-clause-counted g c = posted.history_counted

pub returns-clause-posted : goal.returns-clause-posted
returns-clause-posted g c = λ L laws limit h l. (posted.history_counted L laws limit h l).fewer

pub returns-clause-rise : goal.returns-clause-rise
returns-clause-rise g c = posted.ids_rise

pub returns-clause-given : goal.returns-clause-given
returns-clause-given g c = λ d p x. ids.attempt_at_next d p x x.kind d.focus
