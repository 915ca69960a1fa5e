-- How lines that were worked by hand are told.
use Rattle.std.specs.Prelude.{◌≡◌, ℕ, List, [], ◌∷◌, Some, None, true}
use Rattle.std.proofs.Common.{refl}
use Rattle.line_theory.specs.Shapes.{Item, lone, block, closed, last, zone}
use Rattle.line_theory.specs.Lines.{Closing, Line, empty, ids, cursor, tip, refolded}
use Rattle.line_theory.specs.Edits.{edited, removed, cancelled}
use Rattle.edit_core.specs.declared.add.Step.TheVariants.{Plain, Begin, Close}
use Rattle.edit_core.specs.declared.edit.Edited.TheVariants.{NewTip, Focus, ZoneOpen, NoSuchState}
use Rattle.edit_core.specs.declared.removal.Removal.TheVariants.{Refused}
use Rattle.edit_core.specs.Steps.{stepped, stop_in}
use Rattle.edit_core.specs.Told.{told}
use Rattle.edit_core.specs.Cancels.{as_cancelled, as_removal}

abbrev kept : Closing
kept = record { id = 11; opaque = true }

-- two sentences outside of proofs
abbrev start : List (Item ℕ Closing)
start = lone 2 ∷ lone 3 ∷ []

-- and a lemma with six sentences and its closer
abbrev one_block : Line
one_block = stepped 11 (Close true) (stepped 10 Plain (stepped 9 Plain (stepped 8 Plain
    (stepped 7 Plain (stepped 6 Plain (stepped 5 Plain (stepped 4 Begin (stepped 3 Plain (stepped 2 Plain empty)))))))))

-- and a second block
abbrev two_blocks : Line
two_blocks = stepped 15 (Close true) (stepped 14 Plain (stepped 13 Plain (stepped 12 Begin one_block)))

abbrev second : Item ℕ Closing
second = block 12 (13 ∷ 14 ∷ []) (record { id = 15; opaque = true })

-- the zone behind 7
abbrev opened : Line
opened = record { items = start; focus = zone 4 (5 ∷ 6 ∷ 7 ∷ []) kept (second ∷ []) closed }

a_cancel_inside_opens_a_zone : as_cancelled (cancelled (8 ∷ []) two_blocks)
    ≡ record { edits = Focus 4 11 15 ∷ []; removed = 8 ∷ 9 ∷ 10 ∷ []; treated = 1; stopped = None }
a_cancel_inside_opens_a_zone = refl

the_second_block_stays : (cancelled (8 ∷ []) two_blocks).line ≡ opened
the_second_block_stays = refl

-- three come in, and the block is closed by its old closer: the ids don't rise along the line
abbrev repaired : Line
repaired = stepped 18 Plain (stepped 17 Plain (stepped 16 Plain opened))

the_old_closer_closes : stop_in repaired.focus ≡ 11
the_old_closer_closes = refl

the_line_is_in_its_own_order : ids (refolded repaired)
    ≡ 2 ∷ 3 ∷ 4 ∷ 5 ∷ 6 ∷ 7 ∷ 16 ∷ 17 ∷ 18 ∷ 11 ∷ 12 ∷ 13 ∷ 14 ∷ 15 ∷ []
the_line_is_in_its_own_order = refl

the_cursor_moves_to_the_end : cursor (refolded repaired) ≡ 15
the_cursor_moves_to_the_end = refl

-- nothing goes, also not 7
an_id_behind_the_closer_ends_it : as_cancelled (cancelled (13 ∷ 7 ∷ []) opened)
    ≡ record { edits = []; removed = []; treated = 0; stopped = Some (13, 11) }
an_id_behind_the_closer_ends_it = refl

the_closer_is_refused : as_removal (removed 11 opened) ≡ Refused 11
the_closer_is_refused = refl

an_edit_behind_the_closer_is_refused : told (edited 15 opened) ≡ ZoneOpen 11
an_edit_behind_the_closer_is_refused = refl

-- 5 is there once, and 1 and 99 never
what_is_not_there_is_passed_over : as_cancelled (cancelled (5 ∷ 5 ∷ 1 ∷ 99 ∷ []) one_block)
    ≡ record { edits = Focus 4 11 11 ∷ []; removed = 5 ∷ 6 ∷ 7 ∷ 8 ∷ 9 ∷ 10 ∷ []; treated = 4; stopped = None }
what_is_not_there_is_passed_over = refl

-- an edit of 1 takes all, and is told with the place before the line
an_edit_of_the_beginning : told (edited 1 two_blocks) ≡ NewTip 1
an_edit_of_the_beginning = refl

an_edit_of_no_id : told (edited 99 two_blocks) ≡ NoSuchState
an_edit_of_no_id = refl
