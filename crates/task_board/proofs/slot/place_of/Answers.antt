use Rattle.std.proofs.Common.{not, ap, ◌∙◌}
use Rattle.task_board.proofs.Seen.{got, absent-past, absent-other, absent-empty, at, no_value}
use Rattle.task_board.proofs.slot.place_of.Goals as goal

pub returns-then-place-slots-clause-none : goal.returns-then-place-slots-clause-none
returns-then-place-slots-clause-none g c =
    absent-past c.args.number c.first_from-place.result c.args.slots.now c.requires c.first_from-place.ensures c.if-place-slots.true

pub returns-then-slot-number-clause-none : goal.returns-then-slot-number-clause-none
returns-then-slot-number-clause-none g c =
    let h = got c.first_from-place.result c.args.slots.now c.index-slots-place.result c.if-place-slots.false c.index-slots-place.is in
    absent-other c.args.number c.first_from-place.result c.args.slots.now c.index-slots-place.result c.requires c.first_from-place.ensures h c.if-slot-number.true

pub returns-then-is_none-clause-none : goal.returns-then-is_none-clause-none
returns-then-is_none-clause-none g c =
    let h = got c.first_from-place.result c.args.slots.now c.index-slots-place.result c.if-place-slots.false c.index-slots-place.is in
    absent-empty c.args.number c.first_from-place.result c.args.slots.now c.index-slots-place.result c.requires c.first_from-place.ensures h (no_value _ (c.is_none.ensures ∙ ap not c.if-is_none.true))

pub returns-clause-found : goal.returns-clause-found
returns-clause-found g c =
    let h = got c.first_from-place.result c.args.slots.now c.index-slots-place.result c.if-place-slots.false c.index-slots-place.is in
    at c.args.number c.first_from-place.result c.args.slots.now c.index-slots-place.result h c.if-slot-number.false (c.is_none.ensures ∙ ap not c.if-is_none.false)
