-- How an edit is told.
use Rattle.line_theory.specs.Lines.{Line}
use Rattle.line_theory.specs.Edits.{Edited as Change, changed, zone_open, unknown, Outcome, new_tip, focused, outcome}
use Rattle.edit_core.specs.declared.edit.Edited.{Edited}
use Rattle.edit_core.specs.declared.edit.Edited.TheVariants.{NewTip, Focus, ZoneOpen, NoSuchState}

-- a line by its cursor, or by its zone and its tip
abbrev pub told_outcome : Outcome → Edited
told_outcome (new_tip n) = NewTip n
told_outcome (focused l c n) = Focus l c n

-- a change by the line that it makes, and the others as they are
abbrev pub told : Change → Edited
told (changed e) = told_outcome (outcome e)
told (zone_open c) = ZoneOpen c
told unknown = NoSuchState

-- the line that is left
abbrev pub line_after : Change → Line → Line
line_after (changed e) d = e
line_after (zone_open c) d = d
line_after unknown d = d
