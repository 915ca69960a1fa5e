use Rattle.script_theory.specs.Sentences.{empty}
use Rattle.doc_theory.specs.Documents.{marks}
use Rattle.check_theory.proofs.Lawful.{language_lawful}
use Rattle.check_theory.proofs.Verdicts.{one_found, verdicts_are}
use Rattle.check_theory.proofs.check.the_language_is_a_check.Goals as goal

pub returns-clause-laws : goal.returns-clause-laws
returns-clause-laws c = language_lawful

pub returns-clause-one : goal.returns-clause-one
returns-clause-one c = one_found

pub returns-clause-verdicts : goal.returns-clause-verdicts
returns-clause-verdicts c = λ d h. verdicts_are empty (marks d) h
