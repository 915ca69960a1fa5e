use Rattle.std.proofs.Common.{ap}
use Rattle.doc_theory.specs.Checks.{judged}
use Rattle.doc_theory.specs.Histories.{joined_lines, standing}
use Rattle.doc_theory.proofs.Ended as ended
use Rattle.doc_theory.proofs.Texts as all
use Rattle.doc_theory.proofs.Left as left
use Rattle.doc_theory.proofs.theorem.joined_at_the_end.Goals as goal

pub returns-clause-told : goal.returns-clause-told
returns-clause-told g c = ended.all_told

pub returns-clause-lines : goal.returns-clause-lines
returns-clause-lines g c = λ L limit h tag e. ap (joined_lines L (standing L limit h).document) e

pub returns-clause-texts : goal.returns-clause-texts
returns-clause-texts g c = all.all_texts

pub returns-clause-listed : goal.returns-clause-listed
returns-clause-listed g c = λ L d. all.faults_are (judged L d)

pub returns-clause-left : goal.returns-clause-left
returns-clause-left g c = left.left_is_last

pub returns-clause-listed_texts : goal.returns-clause-listed_texts
returns-clause-listed_texts g c = λ L d. all.fault_texts_are (judged L d)
