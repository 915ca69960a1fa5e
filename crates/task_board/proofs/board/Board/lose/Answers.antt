use Rattle.std.proofs.Common.{◌≡◌, true, subst}
use Rattle.task_board.specs.declared.standing.Standing.TheVariants.{Waiting}
use Rattle.task_board.specs.Rows.{is_held}
use Rattle.task_board.specs.Slots.{IsAt, rows_of}
use Rattle.task_board.proofs.Kept.{stood, table-moved}
use Rattle.task_board.proofs.board.Board.lose.Goals as goal

pub invariant_of-self : goal.invariant_of-self
invariant_of-self g c =
    let a = subst (λ ss. IsAt ss c.in-Some.place c.args.number) c.deref.ensures.value c.in-Some.ensures.found in
    (stood c.self.invariant c.in-Some.place c.args.number a Waiting c.stand_at.ensures.changes c.stand_at.ensures.capacity).0

pub returns : goal.returns
returns g c =
    let a = subst (λ ss. IsAt ss c.in-Some.place c.args.number) c.deref.ensures.value c.in-Some.ensures.found in
    let held = subst (λ ss. is_held c.args.seat c.args.number (rows_of ss) ≡ true) c.deref.ensures.value c.in-Some.ensures.held in
    rw (← c.self.view_is) (table-moved c.args.seat c.args.number Waiting _ _ held
    (stood c.self.invariant c.in-Some.place c.args.number a Waiting c.stand_at.ensures.changes c.stand_at.ensures.capacity).1)
