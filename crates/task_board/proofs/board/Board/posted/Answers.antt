use Rattle.task_board.proofs.Kept.{is-table}
use Rattle.task_board.proofs.board.Board.posted.Goals as goal

pub returns-clause-valid : goal.returns-clause-valid
returns-clause-valid g c = rw (← c.self.view_is) (is-table c.self.invariant)
