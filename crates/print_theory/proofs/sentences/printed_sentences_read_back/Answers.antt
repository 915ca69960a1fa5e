use Rattle.print_theory.proofs.Laws as laws
use Rattle.print_theory.proofs.sentences.printed_sentences_read_back.Goals as goal

pub returns-clause-lemma : goal.returns-clause-lemma
returns-clause-lemma c = laws.lemma_begins

pub returns-clause-theorem : goal.returns-clause-theorem
returns-clause-theorem c = laws.theorem_begins

pub returns-clause-parameter : goal.returns-clause-parameter
returns-clause-parameter c = laws.parameter_declares

pub returns-clause-axiom : goal.returns-clause-axiom
returns-clause-axiom c = laws.axiom_declares
