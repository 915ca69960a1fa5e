use Rattle.doc_theory.specs.Histories.{standing}
use Rattle.check_theory.specs.Language.{language}
use Rattle.check_theory.proofs.Standings.{standing_read}
use Rattle.check_theory.proofs.Blocks.{block_proved, closer_proved}
use Rattle.check_theory.proofs.derivations.good_closers_have_derivations.Goals as goal

pub returns-clause-history : goal.returns-clause-history
returns-clause-history c = λ limit h. block_proved (standing language limit h).document (standing_read limit h)

pub returns-clause-block : goal.returns-clause-block
returns-clause-block c = block_proved

pub returns-clause-closer : goal.returns-clause-closer
returns-clause-closer c = closer_proved
