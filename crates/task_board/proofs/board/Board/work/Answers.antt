use Rattle.std.proofs.Common.{sym, ◌∙◌, subst, ap}
use Rattle.task_board.specs.declared.slot.Slot.{Slot}
use Rattle.task_board.specs.Slots.{IsAt}
use Rattle.task_board.proofs.Kept.{its-work, at-index}
use Rattle.task_board.proofs.board.Board.work.Goals as goal

pub returns : goal.returns
returns g c =
    let a = subst (λ ss. IsAt ss c.in-Some.place c.args.number) c.deref.ensures.value c.in-Some.ensures.found in
    let same = at-index c.in-Some.place c.args.number _ c.index.result.now a c.index.ensures in
    rw (← c.self.view_is) (c.as_ref.ensures.value ∙ ap (λ (s : Slot g.row.T.Denot g.row.R.Denot). s.work) same ∙ sym (its-work c.self.invariant c.args.number c.in-Some.place a))
