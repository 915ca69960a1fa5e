use Rattle.std.proofs.Common.{◌≡◌, None, sym, ◌∙◌, subst, ap}
use Rattle.std.specs.Prelude.{find, nat_eq}
use Rattle.task_board.specs.declared.slot.Slot.{Slot}
use Rattle.task_board.specs.Rows.{Row, is_left, holder}
use Rattle.task_board.specs.Slots.{IsAt, rows_of}
use Rattle.task_board.proofs.Kept.{none-left, some-left, left-least, never-lost, at-index}
use Rattle.task_board.proofs.board.Board.least_left.Goals as goal

pub returns-in_default : goal.returns-in_default
returns-in_default g c = rw (← c.self.view_is) (none-left c.self.invariant c.in_default.ensures)

pub returns-in_default-place_of : goal.returns-in_default-place_of
returns-in_default-place_of g c =
    let lost = subst (λ ss. find (λ r. nat_eq c.in-Some.number r.number) (rows_of ss) ≡ None) c.deref.ensures.value c.in_default-place_of.ensures.none in
    absurd (never-lost c.self.invariant is_left c.in-Some.number (sym (c.in-Some.ensures ∙ left-least c.self.invariant)) lost)

pub returns : goal.returns
returns g c =
    let a = subst (λ ss. IsAt ss c.in-Some-place_of.place c.in-Some.number) c.deref.ensures.value c.in-Some-place_of.ensures.found in
    let same = at-index c.in-Some-place_of.place c.in-Some.number _ c.index.result.now a c.index.ensures in
    rw (← c.self.view_is) (some-left c.self.invariant c.in-Some.number c.in-Some-place_of.place 0 a c.holder.result c.in-Some.ensures (c.holder.ensures ∙ ap (λ (s : Slot g.row.T.Denot g.row.R.Denot). holder s.standing) same))
