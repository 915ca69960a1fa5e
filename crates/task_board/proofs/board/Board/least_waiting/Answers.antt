use Rattle.std.proofs.Common.{◌∙◌}
use Rattle.task_board.proofs.Kept.{waiting-least}
use Rattle.task_board.proofs.board.Board.least_waiting.Goals as goal

pub returns : goal.returns
returns g c = rw (← c.self.view_is) (c.least_number.ensures ∙ waiting-least c.self.invariant)
