use Rattle.std.proofs.Common.{◌≡◌, None, sym, subst, ap}
use Rattle.std.specs.Prelude.{find, nat_eq}
use Rattle.task_board.specs.Slots.{IsAt, rows_of}
use Rattle.task_board.proofs.Kept.{table, without-none, block-never-lost, emptied-kept}
use Rattle.task_board.proofs.board.Board.withdraw.Goals as goal

pub returns-in_default : goal.returns-in_default
returns-in_default g c = rw (← c.self.view_is) (ap (λ rows. table rows c.self.inside.next c.self.inside.spare) (without-none c.self.invariant c.args.block c.in_default.ensures.value))

pub returns-in_default-place_of : goal.returns-in_default-place_of
returns-in_default-place_of g c =
    let lost = subst (λ ss. find (λ r. nat_eq c.in-Some.number.now r.number) (rows_of ss) ≡ None) c.deref.ensures.value c.in_default-place_of.ensures.none in
    absurd (block-never-lost c.self.invariant c.args.block c.in-Some.number.now c.in-Some.ensures.value lost)

pub invariant_of-self : goal.invariant_of-self
invariant_of-self g c =
    let a = subst (λ ss. IsAt ss c.in-Some-place_of.place c.in-Some.number.now) c.deref.ensures.value c.in-Some-place_of.ensures.found in
    (emptied-kept c.self.invariant c.in-Some-place_of.place c.in-Some.number.now a c.args.block c.remove.new.self
    c.vacate_at.ensures.changes c.vacate_at.ensures.capacity (sym c.in-Some.ensures.value)
    c.remove.ensures.updates.0 c.remove.ensures.spare).0

pub returns : goal.returns
returns g c =
    let a = subst (λ ss. IsAt ss c.in-Some-place_of.place c.in-Some.number.now) c.deref.ensures.value c.in-Some-place_of.ensures.found in
    rw (← c.self.view_is) (ap (λ rows. table rows c.self.inside.next c.self.inside.spare)
    (emptied-kept c.self.invariant c.in-Some-place_of.place c.in-Some.number.now a c.args.block c.remove.new.self
    c.vacate_at.ensures.changes c.vacate_at.ensures.capacity (sym c.in-Some.ensures.value)
    c.remove.ensures.updates.0 c.remove.ensures.spare).1)
