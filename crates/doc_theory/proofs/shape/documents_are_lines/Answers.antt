use Rattle.doc_theory.proofs.Shaped as shaped
use Rattle.doc_theory.proofs.shape.documents_are_lines.Goals as goal

pub returns-clause-ids : goal.returns-clause-ids
returns-clause-ids c = shaped.ids_shape

pub returns-clause-cursor : goal.returns-clause-cursor
returns-clause-cursor c = shaped.cursor_shape

pub returns-clause-tip : goal.returns-clause-tip
returns-clause-tip c = shaped.tip_shape

pub returns-clause-outcome : goal.returns-clause-outcome
returns-clause-outcome c = shaped.outcome_shape

pub returns-clause-lost : goal.returns-clause-lost
returns-clause-lost c = shaped.lost_shape

pub returns-clause-added : goal.returns-clause-added
returns-clause-added c = shaped.attempt_shape

pub returns-clause-edited : goal.returns-clause-edited
returns-clause-edited c = shaped.edited_shape

pub returns-clause-removed : goal.returns-clause-removed
returns-clause-removed c = shaped.removed_shape

pub returns-clause-cancelled : goal.returns-clause-cancelled
returns-clause-cancelled c = shaped.cancels_shape
