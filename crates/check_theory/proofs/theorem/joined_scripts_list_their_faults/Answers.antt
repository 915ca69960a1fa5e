use Rattle.doc_theory.specs.Checks.{judged}
use Rattle.doc_theory.proofs.Ended as ended
use Rattle.doc_theory.proofs.Texts as all
use Rattle.check_theory.specs.Language.{language}
use Rattle.check_theory.proofs.Lawful.{language_lawful}
use Rattle.check_theory.proofs.theorem.joined_scripts_list_their_faults.Goals as goal

pub returns-clause-told : goal.returns-clause-told
returns-clause-told c = ended.all_told language language_lawful

pub returns-clause-listed : goal.returns-clause-listed
returns-clause-listed c = λ d. all.fault_texts_are (judged language d)

pub returns-clause-texts : goal.returns-clause-texts
returns-clause-texts c = all.all_texts language language_lawful
