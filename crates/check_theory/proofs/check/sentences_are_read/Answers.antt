use Rattle.std.proofs.Common.{false}
use Rattle.doc_theory.specs.Documents.{marks}
use Rattle.script_theory.specs.Sentences.{empty}
use Rattle.check_theory.proofs.Reading.{pieces_read}
use Rattle.check_theory.proofs.Standings.{standing_read}
use Rattle.check_theory.proofs.Placed.{marks_placed, placed_read}
use Rattle.check_theory.proofs.Opened.{all_found}
use Rattle.check_theory.proofs.check.sentences_are_read.Goals as goal

pub returns-clause-cut : goal.returns-clause-cut
returns-clause-cut c = pieces_read

pub returns-clause-standing : goal.returns-clause-standing
returns-clause-standing c = standing_read

pub returns-clause-live : goal.returns-clause-live
returns-clause-live c = λ d h. placed_read false (marks d) (marks_placed d h)

pub returns-clause-placed : goal.returns-clause-placed
returns-clause-placed c = λ d h. all_found (marks d) false empty (marks_placed d h) tt
