use Rattle.std.proofs.Common.{◌≡◌, None, refl, sym, ◌∙◌, subst, ap}
use Rattle.std.specs.Prelude.{find, nat_eq}
use Rattle.task_board.specs.declared.slot.Slot.{Slot}
use Rattle.task_board.specs.Rows.{Row, outcome_of}
use Rattle.task_board.specs.Slots.{IsAt, rows_of}
use Rattle.task_board.proofs.Kept.{no-block, block-never-lost, its-result, at-index}
use Rattle.task_board.proofs.board.Board.result.Goals as goal

pub returns-in_default : goal.returns-in_default
returns-in_default g c = rw (← c.self.view_is, no-block c.self.invariant c.args.block c.in_default.ensures.value) refl

pub returns-in_default-place_of : goal.returns-in_default-place_of
returns-in_default-place_of g c =
    let lost = subst (λ ss. find (λ r. nat_eq c.in-Some.number.now r.number) (rows_of ss) ≡ None) c.deref.ensures.value c.in_default-place_of.ensures.none in
    absurd (block-never-lost c.self.invariant c.args.block c.in-Some.number.now c.in-Some.ensures.value lost)

pub returns : goal.returns
returns g c =
    let a = subst (λ ss. IsAt ss c.in-Some-place_of.place c.in-Some.number.now) c.deref.ensures.value c.in-Some-place_of.ensures.found in
    let same = at-index c.in-Some-place_of.place c.in-Some.number.now _ c.index.result.now a c.index.ensures in
    rw (← c.self.view_is) (c.outcome.ensures ∙ ap (λ (s : Slot g.row.T.Denot g.row.R.Denot). outcome_of s.standing) same
    ∙ sym (its-result c.self.invariant c.args.block c.in-Some.number.now c.in-Some-place_of.place a c.in-Some.ensures.value))
