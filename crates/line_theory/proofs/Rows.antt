-- Lines that were worked by hand, and what the definitions make of them.
use Rattle.std.specs.Prelude.{◌≡◌, ℕ, List, [], ◌∷◌, Some, None, true}
use Rattle.std.proofs.Common.{refl}
use Rattle.line_theory.specs.Shapes.{Item, lone, block, closed, proof, last, zone}
use Rattle.line_theory.specs.Lines.{Closing, Line, empty, ids, cursor, tip, before, committed, begun, merged, refolded}
use Rattle.line_theory.specs.Edits.{new_tip, focused, outcome, changed, zone_open, unknown, edited, lost, cancelled}

-- ---- the lines

abbrev opaque : ℕ → Closing
opaque i = record { id = i; opaque = true }

-- two sentences outside of proofs
abbrev start : List (Item ℕ Closing)
start = lone 2 ∷ lone 3 ∷ []

abbrev six : List ℕ
six = 5 ∷ 6 ∷ 7 ∷ 8 ∷ 9 ∷ 10 ∷ []

-- the same with the lemma 4, six sentences and its closer
abbrev one_block : Line
one_block = record { items = lone 2 ∷ lone 3 ∷ block 4 six (opaque 11) ∷ []; focus = last closed }

abbrev second : Item ℕ Closing
second = block 12 (13 ∷ 14 ∷ []) (opaque 15)

-- and with a second block behind it
abbrev two_blocks : Line
two_blocks = record { items = lone 2 ∷ lone 3 ∷ block 4 six (opaque 11) ∷ second ∷ []; focus = last closed }

-- the zone behind 7
abbrev opened : Line
opened = record { items = start; focus = zone 4 (5 ∷ 6 ∷ 7 ∷ []) (opaque 11) (second ∷ []) closed }

-- ---- adding

adding_makes_the_first_block : merged 11 true
    (committed 10
    (committed 9 (committed 8 (committed 7 (committed 6 (committed 5 (begun 4 (committed 3 (committed 2 empty)))))))))
    ≡ one_block
adding_makes_the_first_block = refl

adding_makes_the_second_block : merged 15 true (committed 14 (committed 13 (begun 12 one_block))) ≡ two_blocks
adding_makes_the_second_block = refl

-- ---- a zone

-- what stands between the id and the closer goes, and the second block stays
an_id_inside_goes : cancelled (8 ∷ []) two_blocks
    ≡ record { line = opened; edits = focused 4 11 15 ∷ []; gone = 8 ∷ 9 ∷ 10 ∷ []; treated = 1; stopped = None }
an_id_inside_goes = refl

the_cursor_stands_behind_the_id_before : cursor opened ≡ 7
the_cursor_stands_behind_the_id_before = refl

-- the same by the edit at the id before
an_edit_opens_the_zone : edited 7 two_blocks ≡ changed opened
an_edit_opens_the_zone = refl

the_zone_is_told : outcome opened ≡ focused 4 11 15
the_zone_is_told = refl

three_are_lost : lost two_blocks opened ≡ 8 ∷ 9 ∷ 10 ∷ []
three_are_lost = refl

-- an id in the tail ends it before anything goes
the_tail_is_refused : cancelled (13 ∷ 7 ∷ []) opened
    ≡ record { line = opened; edits = []; gone = []; treated = 0; stopped = Some (13, 11) }
the_tail_is_refused = refl

an_edit_in_the_tail_is_refused : edited 12 opened ≡ zone_open 11
an_edit_in_the_tail_is_refused = refl

-- ids that come in stand behind 7, before the kept closer
two_come_in : ids (committed 17 (committed 16 opened)) ≡ 2 ∷ 3 ∷ 4 ∷ 5 ∷ 6 ∷ 7 ∷ 16 ∷ 17 ∷ 11 ∷ 12 ∷ 13 ∷ 14 ∷ 15 ∷ []
two_come_in = refl

closing_keeps_closer_and_tail : refolded (committed 17 (committed 16 opened))
    ≡ record { items = lone 2 ∷ lone 3 ∷ block 4 (5 ∷ 6 ∷ 7 ∷ 16 ∷ 17 ∷ []) (opaque 11) ∷ second ∷ []; focus = last closed }
closing_keeps_closer_and_tail = refl

the_tip_is_the_last_of_the_tail : tip (refolded (committed 17 (committed 16 opened))) ≡ 15
the_tip_is_the_last_of_the_tail = refl

-- what stands before an id is said by the line, not by the numbers
the_kept_closer_stands_behind_the_cursor : before 11 opened ≡ 7
the_kept_closer_stands_behind_the_cursor = refl

the_closer_stands_behind_a_later_id : before 11 (refolded (committed 17 (committed 16 opened))) ≡ 17
the_closer_stands_behind_a_later_id = refl

-- ---- no zone

-- 5 is in the line only once, and 1 and 99 never
each_id_is_sought_in_what_is_left : cancelled (5 ∷ 5 ∷ 1 ∷ 99 ∷ []) one_block
    ≡ record {
      line = record { items = start; focus = zone 4 [] (opaque 11) [] closed };
      edits = focused 4 11 11 ∷ [];
      gone = six;
      treated = 4;
      stopped = None;
    }
each_id_is_sought_in_what_is_left = refl

-- without its closer the block is open at the end
a_closer_goes : cancelled (11 ∷ []) one_block
    ≡ record {
      line = record { items = start; focus = last (proof 4 six) };
      edits = new_tip 10 ∷ [];
      gone = 11 ∷ [];
      treated = 1;
      stopped = None;
    }
a_closer_goes = refl

an_edit_outside_of_blocks_cuts : edited 3 two_blocks ≡ changed (record { items = start; focus = last closed })
an_edit_outside_of_blocks_cuts = refl

an_edit_of_no_id_is_nothing : edited 99 two_blocks ≡ unknown
an_edit_of_no_id_is_nothing = refl
