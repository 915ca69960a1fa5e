use Rattle.line_theory.proofs.Folded as folded
use Rattle.line_theory.proofs.Words as words
use Rattle.line_theory.proofs.changes.folding_keeps_the_line.Goals as goal

pub returns-clause-ids : goal.returns-clause-ids
returns-clause-ids c = folded.refolded_ids

pub returns-clause-cursor : goal.returns-clause-cursor
returns-clause-cursor c = words.refolded_back
