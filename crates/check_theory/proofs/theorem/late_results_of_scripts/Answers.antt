use Rattle.doc_theory.proofs.Late as late
use Rattle.check_theory.specs.Language.{language}
use Rattle.check_theory.proofs.Lawful.{language_lawful}
use Rattle.check_theory.proofs.theorem.late_results_of_scripts.Goals as goal

pub returns-clause-live : goal.returns-clause-live
returns-clause-live c = λ limit h l. (late.history_kept language language_lawful limit h).rows

pub returns-clause-claimed : goal.returns-clause-claimed
returns-clause-claimed c = late.claimed_task language language_lawful

pub returns-clause-kept : goal.returns-clause-kept
returns-clause-kept c = late.kept_result language language_lawful

pub returns-clause-gone : goal.returns-clause-gone
returns-clause-gone c = late.gone_result language
