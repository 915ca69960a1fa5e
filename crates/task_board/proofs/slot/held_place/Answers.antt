use Rattle.std.proofs.Common.{sym, ◌∙◌}
use Rattle.task_board.specs.Slots.{rows_of}
use Rattle.task_board.proofs.Seen.{held-none, held-here}
use Rattle.task_board.proofs.slot.held_place.Goals as goal

pub returns-in_default-clause-none : goal.returns-in_default-clause-none
returns-in_default-clause-none g c = held-none c.args.seat c.args.number (rows_of c.args.slots.now) c.in_default.ensures.none

pub returns-then-not-is_held_by-clause-none : goal.returns-then-not-is_held_by-clause-none
returns-then-not-is_held_by-clause-none g c =
    held-here c.args.seat c.args.number c.in-Some.place c.args.slots.now c.index-slots-place.result c.requires c.in-Some.ensures.found c.index-slots-place.is ∙ sym c.is_held_by.ensures ∙ c.if-not-is_held_by.true

pub returns-clause-held : goal.returns-clause-held
returns-clause-held g c =
    held-here c.args.seat c.args.number c.in-Some.place c.args.slots.now c.index-slots-place.result c.requires c.in-Some.ensures.found c.index-slots-place.is ∙ sym c.is_held_by.ensures ∙ c.if-not-is_held_by.false
