use Rattle.step_core.proofs.Readback.{lemma_read, axiom_read}
use Rattle.step_core.proofs.back.stated_text_reads_back.Goals as goal

pub returns-clause-lemma : goal.returns-clause-lemma
returns-clause-lemma c = lemma_read

pub returns-clause-axiom : goal.returns-clause-axiom
returns-clause-axiom c = axiom_read
