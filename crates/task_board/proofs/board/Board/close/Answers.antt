use Rattle.std.proofs.Common.{◌≤◌, ap, arith}
use Rattle.std.specs.HashMap.{spare}
use Rattle.task_board.proofs.Kept.{table, closed-kept}
use Rattle.task_board.proofs.board.Board.close.Goals as goal

pub invariant_of-self : goal.invariant_of-self
invariant_of-self g c =
    let room : spare c.self.inside.blocks ≤ spare c.clear-4.new.self = omega (arith, c.clear-4.ensures.capacity) in
    (closed-kept c.self.invariant c.clear-4.new.self c.clear.ensures.items c.clear.ensures.capacity c.clear-2.ensures c.clear-3.ensures
    c.clear-4.ensures.empty room).0

pub returns : goal.returns
returns g c =
    let room : spare c.self.inside.blocks ≤ spare c.clear-4.new.self = omega (arith, c.clear-4.ensures.capacity) in
    rw (← c.self.view_is) (ap (λ rows. table rows c.self.inside.next c.self.inside.spare)
    (closed-kept c.self.invariant c.clear-4.new.self c.clear.ensures.items c.clear.ensures.capacity c.clear-2.ensures c.clear-3.ensures
    c.clear-4.ensures.empty room).1)
