-- A sentence that comes in at the cursor.
use Rattle.std.specs.Prelude.{◌≡◌, ℕ, ◌≤◌, false}
use Rattle.line_theory.specs.Lists.{has}
use Rattle.line_theory.specs.Shapes.{Focus, last, zone}
use Rattle.line_theory.specs.Lines.{Closing, Line, ids, committed, begun, merged, AtEnd, InProof}
use Rattle.edit_core.specs.declared.add.Step.{Step}
use Rattle.edit_core.specs.declared.add.Step.TheVariants.{Plain, Begin, Close}

-- where the cursor has to stand for such a sentence
abbrev pub Allows : Step → Line → Type 0
Allows Plain d = Unit {0}
Allows Begin d = AtEnd d.focus
Allows (Close opaque) d = InProof d.focus

-- the id is a new one, and the cursor stands where its sentence may come in
abbrev pub Fits : ℕ → Step → Line → Type 0
Fits i s d = (2 ≤ i) × ((has i (ids d) ≡ false) × Allows s d)

-- the line with the sentence
abbrev pub stepped : ℕ → Step → Line → Line
stepped i Plain d = committed i d
stepped i Begin d = begun i d
stepped i (Close opaque) d = merged i opaque d

-- the kept closer of the zone, or 1 where none is open
abbrev pub stop_in : Focus ℕ Closing → ℕ
stop_in (last o) = 1
stop_in (zone l b c t o) = c.id
