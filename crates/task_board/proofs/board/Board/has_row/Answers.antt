use Rattle.std.proofs.Common.{◌∙◌}
use Rattle.task_board.proofs.Kept.{has-row}
use Rattle.task_board.proofs.board.Board.has_row.Goals as goal

pub returns : goal.returns
returns g c = rw (← c.self.view_is) (c.contains_key.ensures ∙ has-row c.self.invariant c.args.block)
