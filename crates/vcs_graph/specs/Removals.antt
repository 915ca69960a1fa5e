-- An id that goes, with what has to go with it.
use Rattle.std.specs.Prelude.{◌≡◌, ℕ, true}
use Rattle.line_theory.specs.Shapes.{closed, proof, Focus, last, zone}
use Rattle.line_theory.specs.Lines.{Closing, Line, at_lone, at_lemma, at_inner, at_closer, missing}
use Rattle.line_theory.specs.Edits.{Seat, among, open_lemma, open_inner, behind, nowhere, seat, line_of}

-- ---- the id and all behind it

-- an id stands before the cursor
abbrev pub Stands : Seat → Type 0
Stands (among (at_lone a t)) = Unit {0}
Stands (among (at_lemma a b c t)) = Unit {0}
Stands (among (at_inner a l f k c t)) = Unit {0}
Stands (among (at_closer a l b c t)) = Unit {0}
Stands (among missing) = ⊥
Stands (open_lemma l b) = Unit {0}
Stands (open_inner l f k) = Unit {0}
Stands (behind c) = ⊥
Stands nowhere = ⊥

-- what is left of the line where the id goes that stands here, and all behind it
abbrev pub cleared_at : Seat → Line → Line
cleared_at (among (at_lone a t)) d = line_of a (last closed)
cleared_at (among (at_lemma a b c t)) d = line_of a (last closed)
cleared_at (among (at_inner a l f k c t)) d = line_of a (last (proof l f))
cleared_at (among (at_closer a l b c t)) d = line_of a (last (proof l b))
cleared_at (among missing) d = d
cleared_at (open_lemma l b) d = line_of d.items (last closed)
cleared_at (open_inner l f k) d = line_of d.items (last (proof l f))
cleared_at (behind c) d = d
cleared_at nowhere d = d

-- the id goes, and all behind it; no zone is open any more
abbrev pub cleared : ℕ → Line → Line
cleared i d = cleared_at (seat i d) d

-- ---- the id and what stands between it and the closer, or the cursor

-- an id stands inside of a block that can be opened again, where no zone is open, or inside of the zone
abbrev pub NarrowsIn : Seat → Focus ℕ Closing → Type 0
NarrowsIn (among (at_inner a l f k c t)) (last o) = c.opaque ≡ true
NarrowsIn (open_inner l f k) (zone m b c t o) = Unit {0}
NarrowsIn s f = ⊥

-- the same of where the id stands in the line
abbrev pub Narrows : ℕ → Line → Type 0
Narrows i d = NarrowsIn (seat i d) d.focus

-- the zone that is left where the id goes that stands here, up to the closer or the cursor
abbrev pub narrowed_at : Seat → Line → Focus ℕ Closing → Line
narrowed_at (among (at_inner a l f k c t)) d (last o) = line_of a (zone l f c t o)
narrowed_at (open_inner l f k) d (zone m b c t o) = line_of d.items (zone m f c t o)
narrowed_at s d f = d

-- the id goes, with what stands between it and the closer, or the cursor, and the zone is open where it stood
abbrev pub narrowed : ℕ → Line → Line
narrowed i d = narrowed_at (seat i d) d d.focus
