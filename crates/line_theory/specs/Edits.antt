-- The edit of a line at an id, behind which the next id is to come; the removal of an id; and Cancel, which removes ids one by one.
use Rattle.std.specs.Prelude.{ℕ, suc, nat_eq, List, [], ◌∷◌, ◌++◌, Option, Some, None, Bool, false, if◌then◌else◌}
use Rattle.line_theory.specs.Lists.{has, missing_in}
use Rattle.line_theory.specs.Shapes.{Item, End, closed, proof, Focus, last, zone}
use Rattle.line_theory.specs.Lines.{
  Closing,
  Line,
  empty,
  items_ids,
  end_ids,
  ids,
  cursor,
  tip,
  Split,
  found,
  unfound,
  split,
  Spot,
  at_lone,
  at_lemma,
  at_inner,
  at_closer,
  missing,
  locate,
  dropped,
  zoned,
}

-- ---- where an id stands

-- among the items, at the lemma or inside of the block that is open at the cursor, at the kept closer with this id or behind it, or nowhere
pub data Seat : Type 0 where
  among : Spot → Seat
  open_lemma : ℕ → List ℕ → Seat
  open_inner : ℕ → List ℕ → List ℕ → Seat
  behind : ℕ → Seat
  nowhere : Seat

abbrev pub in_inside : ℕ → Split → Seat → Seat
in_inside l (found f k) other = open_inner l f k
in_inside l unfound other = other

abbrev pub in_proof : ℕ → ℕ → List ℕ → Seat → Seat
in_proof i l b other = if nat_eq i l then open_lemma l b else in_inside l (split i b) other

abbrev pub in_tail : ℕ → Closing → List (Item ℕ Closing) → End ℕ → Seat
in_tail i c t o = if has i (c.id ∷ (items_ids t ++ end_ids o)) then behind c.id else nowhere

abbrev pub in_focus : ℕ → Focus ℕ Closing → Seat
in_focus i (last closed) = nowhere
in_focus i (last (proof l b)) = in_proof i l b nowhere
in_focus i (zone l b c t o) = in_proof i l b (in_tail i c t o)

abbrev pub seat_or : Spot → Seat → Seat
seat_or missing s = s
seat_or (at_lone a t) s = among (at_lone a t)
seat_or (at_lemma a b c t) s = among (at_lemma a b c t)
seat_or (at_inner a l f k c t) s = among (at_inner a l f k c t)
seat_or (at_closer a l b c t) s = among (at_closer a l b c t)

abbrev pub seat : ℕ → Line → Seat
seat i d = seat_or (locate i d.items) (in_focus i d.focus)

-- ---- what an edit comes to

-- a new line; a refusal, for the id stands at this kept closer or behind it; or nothing, for the id isn't there
pub data Edited : Type 0 where
  changed : Line → Edited
  zone_open : ℕ → Edited
  unknown : Edited

-- what holds of the new line, if there is one
abbrev pub IfChanged : (Line → Type 0) → Edited → Type 0
IfChanged P (changed e) = P e
IfChanged P (zone_open c) = Unit {0}
IfChanged P unknown = Unit {0}

-- how a new line is told: the cursor's id, or the zone's lemma, its kept closer and the tip
pub data Outcome : Type 0 where
  new_tip : ℕ → Outcome
  focused : ℕ → ℕ → ℕ → Outcome

abbrev pub outcome_in : Focus ℕ Closing → Line → Outcome
outcome_in (last o) d = new_tip (cursor d)
outcome_in (zone l b c t o) d = focused l c.id (tip d)

abbrev pub outcome : Line → Outcome
outcome d = outcome_in d.focus d

-- ---- edit

-- whether a zone may be opened behind an id: it is the lemma or inside of a block that an opaque merge closed
abbrev pub takes_zone : Spot → Bool
takes_zone (at_lemma a b c t) = c.opaque
takes_zone (at_inner a l f k c t) = c.opaque
takes_zone (at_lone a t) = false
takes_zone (at_closer a l b c t) = false
takes_zone missing = false

-- an id among the items is edited: a zone is opened behind it, where none is open and its block takes one, else all behind it goes
abbrev pub edited_among : ℕ → Spot → Line → Focus ℕ Closing → Line
edited_among i s d (last o) = if takes_zone s then zoned i d else dropped i d
edited_among i s d (zone l b c t o) = dropped i d

-- an id of the block that is open at the cursor is edited: what stands between it and the cursor goes
abbrev pub edited_open : ℕ → Line → Focus ℕ Closing → Line
edited_open i d (last o) = dropped i d
edited_open i d (zone l b c t o) = zoned i d

abbrev pub edited_at : ℕ → Seat → Line → Edited
edited_at i (among s) d = changed (edited_among i s d d.focus)
edited_at i (open_lemma l b) d = changed (edited_open i d d.focus)
edited_at i (open_inner l f k) d = changed (edited_open i d d.focus)
edited_at i (behind c) d = zone_open c
edited_at i nowhere d = unknown

-- the edit at an id; 1 names the place before the line
abbrev pub edited : ℕ → Line → Edited
edited i d = if nat_eq i 1 then changed empty else edited_at i (seat i d) d

-- ---- removing

abbrev pub line_of : List (Item ℕ Closing) → Focus ℕ Closing → Line
line_of a f = record { items = a; focus = f }

-- of a block this front stays: behind it stands a zone, where none is open and the closer allows it, else the end
abbrev pub reentered : Focus ℕ Closing → List (Item ℕ Closing) → ℕ → List ℕ → Closing → List (Item ℕ Closing) → Line
reentered (last o) a l f c t = if c.opaque then line_of a (zone l f c t o) else line_of a (last (proof l f))
reentered (zone m b k u o) a l f c t = line_of a (last (proof l f))

-- of the block that is open at the cursor this front stays
abbrev pub shortened : Focus ℕ Closing → List ℕ → Focus ℕ Closing
shortened (last closed) f = last closed
shortened (last (proof l b)) f = last (proof l f)
shortened (zone l b c t o) f = zone l f c t o

-- an id goes: inside of a block that takes a zone, or of a zone, with what stands between it and the closer, else with all behind it
abbrev pub removed_at : Seat → Line → Edited
removed_at (among (at_lone a t)) d = changed (line_of a (last closed))
removed_at (among (at_lemma a b c t)) d = changed (line_of a (last closed))
removed_at (among (at_inner a l f k c t)) d = changed (reentered d.focus a l f c t)
removed_at (among (at_closer a l b c t)) d = changed (line_of a (last (proof l b)))
removed_at (among missing) d = unknown
removed_at (open_lemma l b) d = changed (line_of d.items (last closed))
removed_at (open_inner l f k) d = changed (line_of d.items (shortened d.focus f))
removed_at (behind c) d = zone_open c
removed_at nowhere d = unknown

abbrev pub removed : ℕ → Line → Edited
removed i d = removed_at (seat i d) d

-- the ids that were in a line and aren't any more, in its order
abbrev pub lost : Line → Line → List ℕ
lost d e = missing_in (ids e) (ids d)

-- ---- Cancel

-- the line that is left, how each edit is told, the ids that went, edit after edit, how many ids were treated, and the id at or behind a
-- kept closer that ended it, with that closer
pub record Cancelled : Type 0 where
  pub line : Line
  pub edits : List Outcome
  pub gone : List ℕ
  pub treated : ℕ
  pub stopped : Option (ℕ × ℕ)

abbrev pub none_left : Line → Option (ℕ × ℕ) → Cancelled
none_left d stop = record { line = d; edits = []; gone = []; treated = 0; stopped = stop }

abbrev pub skipped : Cancelled → Cancelled
skipped r = record { line = r.line; edits = r.edits; gone = r.gone; treated = suc r.treated; stopped = r.stopped }

abbrev pub put_edit : Outcome → List ℕ → Cancelled → Cancelled
put_edit o is r = record { line = r.line; edits = o ∷ r.edits; gone = is ++ r.gone; treated = suc r.treated; stopped = r.stopped }

abbrev pub cancel_step : ℕ → Line → Edited → (Line → Cancelled) → Cancelled
cancel_step i d unknown more = skipped (more d)
cancel_step i d (zone_open c) more = none_left d (Some (i, c))
cancel_step i d (changed e) more = put_edit (outcome e) (lost d e) (more e)

-- the ids are taken from left to right, each in the line that the ones before it left; one that isn't there is skipped
abbrev pub cancelled : List ℕ → Line → Cancelled
cancelled [] d = none_left d None
cancelled (i ∷ is) d = cancel_step i d (removed i d) (cancelled is)

-- ---- the same by the predecessor

-- whether an id is inside of a block that takes a zone
abbrev pub is_inside : Spot → Bool
is_inside (at_inner a l f k c t) = c.opaque
is_inside (at_lone a t) = false
is_inside (at_lemma a b c t) = false
is_inside (at_closer a l b c t) = false
is_inside missing = false

-- what removing an id among the items makes of the line, by the id before it
abbrev pub among_before : ℕ → Spot → Line → Focus ℕ Closing → Line
among_before p s d (last o) = if is_inside s then zoned p d else dropped p d
among_before p s d (zone l b c t o) = dropped p d

-- the removal of an id that stands here, by the id before it
abbrev pub by_before : ℕ → Seat → Line → Edited
by_before p (among missing) d = unknown
by_before p (among s) d = changed (among_before p s d d.focus)
by_before p (open_lemma l b) d = changed (dropped p d)
by_before p (open_inner l f k) d = changed (edited_open p d d.focus)
by_before p (behind c) d = zone_open c
by_before p nowhere d = unknown
