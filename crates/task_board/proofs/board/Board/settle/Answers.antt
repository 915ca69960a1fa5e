use Rattle.std.proofs.Common.{◌≡◌, true, subst}
use Rattle.task_board.specs.declared.standing.Standing.TheVariants.{Done}
use Rattle.task_board.specs.Rows.{is_held}
use Rattle.task_board.specs.Slots.{IsAt, rows_of}
use Rattle.task_board.proofs.Kept.{stood, table-moved}
use Rattle.task_board.proofs.board.Board.settle.Goals as goal

pub invariant_of-self : goal.invariant_of-self
invariant_of-self g c =
    let a = subst (λ ss. IsAt ss c.in-Some.place c.args.number) c.deref.ensures.value c.in-Some.ensures.found in
    (stood c.self.invariant c.in-Some.place c.args.number a (Done c.args.outcome)
    c.stand_at.ensures.changes c.stand_at.ensures.capacity).0

pub returns-clause-done : goal.returns-clause-done
returns-clause-done g c =
    let a = subst (λ ss. IsAt ss c.in-Some.place c.args.number) c.deref.ensures.value c.in-Some.ensures.found in
    let held = subst (λ ss. is_held c.args.seat c.args.number (rows_of ss) ≡ true) c.deref.ensures.value c.in-Some.ensures.held in
    rw (← c.self.view_is) (table-moved c.args.seat c.args.number (Done c.args.outcome) _ _ held
    (stood c.self.invariant c.in-Some.place c.args.number a (Done c.args.outcome)
    c.stand_at.ensures.changes c.stand_at.ensures.capacity).1)
