use Rattle.std.proofs.Common.{◌≡◌, None, sym, ◌∙◌, subst}
use Rattle.std.specs.Prelude.{find, nat_eq}
use Rattle.task_board.specs.declared.standing.Standing.TheVariants.{Held}
use Rattle.task_board.specs.Rows.{is_waiting}
use Rattle.task_board.specs.Slots.{IsAt, rows_of}
use Rattle.task_board.proofs.Kept.{stood, table-claimed, table-unclaimed, waiting-least, never-lost}
use Rattle.task_board.proofs.board.Board.claim.Goals as goal

pub returns-in_default-clause-least : goal.returns-in_default-clause-least
returns-in_default-clause-least g c = rw (← c.self.view_is) (c.in_default.ensures ∙ waiting-least c.self.invariant)

pub returns-in_default-clause-held : goal.returns-in_default-clause-held
returns-in_default-clause-held g c = rw (← c.self.view_is) (table-unclaimed c.args.seat _ (sym (c.in_default.ensures ∙ waiting-least c.self.invariant)))

pub returns-in_default-place_of-clause-least : goal.returns-in_default-place_of-clause-least
returns-in_default-place_of-clause-least g c =
    let lost = subst (λ ss. find (λ r. nat_eq c.in-Some.number r.number) (rows_of ss) ≡ None) c.deref.ensures.value c.in_default-place_of.ensures.none in
    absurd (never-lost c.self.invariant is_waiting c.in-Some.number (sym (c.in-Some.ensures ∙ waiting-least c.self.invariant)) lost)

pub returns-in_default-place_of-clause-held : goal.returns-in_default-place_of-clause-held
returns-in_default-place_of-clause-held g c =
    let lost = subst (λ ss. find (λ r. nat_eq c.in-Some.number r.number) (rows_of ss) ≡ None) c.deref.ensures.value c.in_default-place_of.ensures.none in
    absurd (never-lost c.self.invariant is_waiting c.in-Some.number (sym (c.in-Some.ensures ∙ waiting-least c.self.invariant)) lost)

pub invariant_of-self : goal.invariant_of-self
invariant_of-self g c =
    let a = subst (λ ss. IsAt ss c.in-Some-place_of.place c.in-Some.number) c.deref.ensures.value c.in-Some-place_of.ensures.found in
    (stood c.self.invariant c.in-Some-place_of.place c.in-Some.number a (Held c.args.seat)
    c.stand_at.ensures.changes c.stand_at.ensures.capacity).0

pub returns-clause-least : goal.returns-clause-least
returns-clause-least g c = rw (← c.self.view_is) (c.in-Some.ensures ∙ waiting-least c.self.invariant)

pub returns-clause-held : goal.returns-clause-held
returns-clause-held g c =
    let a = subst (λ ss. IsAt ss c.in-Some-place_of.place c.in-Some.number) c.deref.ensures.value c.in-Some-place_of.ensures.found in
    rw (← c.self.view_is) (table-claimed c.args.seat c.in-Some.number _ _ (sym (c.in-Some.ensures ∙ waiting-least c.self.invariant))
    (stood c.self.invariant c.in-Some-place_of.place c.in-Some.number a (Held c.args.seat)
    c.stand_at.ensures.changes c.stand_at.ensures.capacity).1)
