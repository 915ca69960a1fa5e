use Rattle.vern_sentence.proofs.Laws as laws
use Rattle.vern_sentence.proofs.function.the_function_reads_the_grammar.Goals as goal

pub returns-clause-accepted : goal.returns-clause-accepted
returns-clause-accepted c = laws.accepted

pub returns-clause-given : goal.returns-clause-given
returns-clause-given c = laws.given

pub returns-clause-faulty : goal.returns-clause-faulty
returns-clause-faulty c = laws.faulty

pub returns-clause-found : goal.returns-clause-found
returns-clause-found c = laws.found
