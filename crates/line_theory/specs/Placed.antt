-- What is meant by the parts round an id, by a cut behind an id, and by reading a line of ids back.
use Rattle.std.specs.Prelude.{◌≡◌, ℕ, List, [], ◌∷◌, ◌++◌, Bool, true, false}
use Rattle.line_theory.specs.Lists.{has, Every}
use Rattle.line_theory.specs.Shapes.{Item, lone, block, Focus, last, zone}
use Rattle.line_theory.specs.Flat.{Role, Reading, read, blank, focus_from, Ruled, RuledFocus}
use Rattle.line_theory.specs.Lines.{Closing, Line, items_ids, ids, front, back, Spot, at_lone, at_lemma, at_inner, at_closer, missing}
use Rattle.line_theory.specs.Edits.{Edited, changed, zone_open, unknown}

-- the parts are those of these items round this id; where there are none, the id isn't in the items
abbrev pub IsSpot : ℕ → List (Item ℕ Closing) → Spot → Type 0
IsSpot i xs (at_lone a t) = xs ≡ a ++ (lone i ∷ t)
IsSpot i xs (at_lemma a b c t) = xs ≡ a ++ (block i b c ∷ t)
IsSpot i xs (at_inner a l f k c t) = xs ≡ a ++ (block l (f ++ (i ∷ k)) c ∷ t)
IsSpot i xs (at_closer a l b c t) = (xs ≡ a ++ (block l b c ∷ t)) × (i ≡ c.id)
IsSpot i xs missing = has i (items_ids xs) ≡ false

-- behind an id one piece goes, and the cursor stands behind the id
pub record IsCutBehind (i : ℕ) (d e : Line) : Type 0 where
  pub before : List ℕ
  pub gone : List ℕ
  pub was : ids d ≡ before ++ (i ∷ (gone ++ back e))
  pub front : front e ≡ before ++ (i ∷ [])

-- an id goes, with the piece behind it, and the cursor stands where it stood
pub record IsCutFrom (i : ℕ) (d e : Line) : Type 0 where
  pub before : List ℕ
  pub gone : List ℕ
  pub was : ids d ≡ before ++ (i ∷ (gone ++ back e))
  pub front : front e ≡ before

-- this is the kept closer of the zone that is open
abbrev pub IsKept : Focus ℕ Closing → ℕ → Type 0
IsKept (last o) c = ⊥
IsKept (zone l b k t o) c = k.id ≡ c

-- an edit or a removal is answered by where the id stands: before the cursor, behind it in the tail of a zone, or nowhere
abbrev pub ByPlace : ℕ → Line → Edited → Type 0
ByPlace i d (changed e) = has i (front d) ≡ true
ByPlace i d (zone_open c) = IsKept d.focus c × ((has i (front d) ≡ false) × (has i (back d) ≡ true))
ByPlace i d unknown = has i (ids d) ≡ false

-- the ids read by what each does; a closer's flag says whether its block can be opened again
abbrev pub closing_of : (ℕ → Bool) → ℕ → Closing
closing_of opaque i = record { id = i; opaque = opaque i }

abbrev pub by_roles : (ℕ → Role) → (ℕ → Bool) → Reading ℕ Closing
by_roles role opaque = record { role = role; closer = closing_of opaque; entry = λ c. c.id }

-- the line of two flat lists
abbrev pub from_lists : Reading ℕ Closing → List ℕ → List ℕ → Line
from_lists R before behind = record { items = (read R blank before).items; focus = focus_from R (read R blank before).end behind }

-- each id of a line does what its place needs
abbrev pub IsRuled : Reading ℕ Closing → Line → Type 0
IsRuled R d = Every (Ruled R) d.items × RuledFocus R d.focus
