use Rattle.task_board.proofs.Kept.{done-least}
use Rattle.task_board.proofs.board.Board.all_done.Goals as goal

pub returns : goal.returns
returns g c = rw (← c.self.view_is) (done-least c.self.invariant c.least_number.result c.is_none.result c.least_number.ensures c.is_none.ensures)
