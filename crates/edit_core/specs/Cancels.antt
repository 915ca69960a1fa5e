-- What a Cancel came to.
use Rattle.std.specs.Prelude.{map}
use Rattle.line_theory.specs.Edits.{Edited as Change, changed, zone_open, unknown, outcome, Cancelled as Result}
use Rattle.edit_core.specs.declared.removal.Cancelled.{Cancelled}
use Rattle.edit_core.specs.declared.removal.End.{End}
use Rattle.edit_core.specs.declared.removal.Removal.{Removal}
use Rattle.edit_core.specs.declared.removal.Removal.TheVariants.{Unknown, Refused, Removed}
use Rattle.edit_core.specs.Told.{told_outcome}

-- all but the line, each edit as it is told
abbrev pub as_cancelled : Result → Cancelled
as_cancelled r = record { edits = map told_outcome r.edits; removed = r.gone; treated = r.treated; stopped = r.stopped }

-- where it ended
abbrev pub end_of : Result → End
end_of r = record { treated = r.treated; stopped = r.stopped }

-- the removal of one id
abbrev pub as_removal : Change → Removal
as_removal (changed e) = Removed (told_outcome (outcome e))
as_removal (zone_open c) = Refused c
as_removal unknown = Unknown
