-- The line of ids with its cursor, its zone and its blocks, and what each change makes of it.
use Rattle.std.specs.Prelude.{◌≡◌, ℕ, List, [], ◌∷◌, ◌++◌, Option, Some, None, Bool, true, false, nat_eq, if◌then◌else◌}
use Rattle.line_theory.specs.Lists.{has, last_or, before_in}
use Rattle.line_theory.specs.Shapes.{Item, lone, block, End, closed, proof, Focus, last, zone}

-- the closer of a block: its id, and whether the block can be opened again
pub record Closing : Type 0 where
  pub id : ℕ
  pub opaque : Bool

pub record Line : Type 0 where
  pub items : List (Item ℕ Closing)
  pub focus : Focus ℕ Closing

-- the line without ids
abbrev pub empty : Line
empty = record { items = []; focus = last closed }

-- ---- the flat list

abbrev pub item_ids : Item ℕ Closing → List ℕ
item_ids (lone i) = i ∷ []
item_ids (block l b c) = l ∷ (b ++ (c.id ∷ []))

abbrev pub items_ids : List (Item ℕ Closing) → List ℕ
items_ids [] = []
items_ids (x ∷ xs) = item_ids x ++ items_ids xs

abbrev pub end_ids : End ℕ → List ℕ
end_ids closed = []
end_ids (proof l b) = l ∷ b

-- what stands before the cursor, and behind it
abbrev pub front_of : Focus ℕ Closing → List ℕ
front_of (last o) = end_ids o
front_of (zone l b c t o) = l ∷ b

abbrev pub back_of : Focus ℕ Closing → List ℕ
back_of (last o) = []
back_of (zone l b c t o) = c.id ∷ (items_ids t ++ end_ids o)

abbrev pub front : Line → List ℕ
front d = items_ids d.items ++ front_of d.focus

abbrev pub back : Line → List ℕ
back d = back_of d.focus

-- all ids in order
abbrev pub ids : Line → List ℕ
ids d = front d ++ back d

-- the last id before the cursor, and the last of all, or 1
abbrev pub cursor : Line → ℕ
cursor d = last_or 1 (front d)

abbrev pub tip : Line → ℕ
tip d = last_or 1 (ids d)

-- the id before one that is in the line, or 1
abbrev pub before : ℕ → Line → ℕ
before i d = before_in 1 i (ids d)

-- ---- adding at the cursor

-- a sentence that neither begins nor closes a proof comes in
abbrev pub committed_in : ℕ → List (Item ℕ Closing) → Focus ℕ Closing → Line
committed_in i a (last closed) = record { items = a ++ (lone i ∷ []); focus = last closed }
committed_in i a (last (proof l b)) = record { items = a; focus = last (proof l (b ++ (i ∷ []))) }
committed_in i a (zone l b c t o) = record { items = a; focus = zone l (b ++ (i ∷ [])) c t o }

abbrev pub committed : ℕ → Line → Line
committed i d = committed_in i d.items d.focus

-- where the cursor stands: at the end with no block open, at the end in a block, or in a zone
abbrev pub AtEnd : Focus ℕ Closing → Type 0
AtEnd (last closed) = Unit {0}
AtEnd (last (proof l b)) = ⊥
AtEnd (zone l b c t o) = ⊥

abbrev pub InProof : Focus ℕ Closing → Type 0
InProof (last closed) = ⊥
InProof (last (proof l b)) = Unit {0}
InProof (zone l b c t o) = ⊥

abbrev pub InZone : Focus ℕ Closing → Type 0
InZone (last o) = ⊥
InZone (zone l b c t o) = Unit {0}

-- the lemma and the kept closer of the zone
abbrev pub zone_in : Focus ℕ Closing → Option (ℕ × ℕ)
zone_in (last o) = None
zone_in (zone l b c t o) = Some (l, c.id)

-- a lemma comes in and opens its block
abbrev pub begun : ℕ → Line → Line
begun i d = record { items = d.items; focus = last (proof i []) }

-- a closer comes in and closes the block that is open at the cursor
abbrev pub merged_in : Closing → List (Item ℕ Closing) → Focus ℕ Closing → Line
merged_in c a (last (proof l b)) = record { items = a ++ (block l b c ∷ []); focus = last closed }
merged_in c a (last closed) = record { items = a; focus = last closed }
merged_in c a (zone l b k t o) = record { items = a; focus = zone l b k t o }

abbrev pub merged : ℕ → Bool → Line → Line
merged i q d = merged_in (record { id = i; opaque = q }) d.items d.focus

-- the zone is closed: its closer stays where it is, and the cursor stands at the end
abbrev pub refolded_in : List (Item ℕ Closing) → Focus ℕ Closing → Line
refolded_in a (last o) = record { items = a; focus = last o }
refolded_in a (zone l b c t o) = record { items = a ++ (block l b c ∷ t); focus = last o }

abbrev pub refolded : Line → Line
refolded d = refolded_in d.items d.focus

-- ---- where an id stands

-- a list around an id
pub data Split : Type 0 where
  found : List ℕ → List ℕ → Split
  unfound : Split

abbrev pub after : ℕ → Split → Split
after x (found f k) = found (x ∷ f) k
after x unfound = unfound

abbrev pub split : ℕ → List ℕ → Split
split i [] = unfound
split i (e ∷ es) = if nat_eq i e then found [] es else after e (split i es)

-- the items around the one with an id, and the part that it is
pub data Spot : Type 0 where
  at_lone : List (Item ℕ Closing) → List (Item ℕ Closing) → Spot
  at_lemma : List (Item ℕ Closing) → List ℕ → Closing → List (Item ℕ Closing) → Spot
  at_inner : List (Item ℕ Closing) → ℕ → List ℕ → List ℕ → Closing → List (Item ℕ Closing) → Spot
  at_closer : List (Item ℕ Closing) → ℕ → List ℕ → Closing → List (Item ℕ Closing) → Spot
  missing : Spot

abbrev pub under : Item ℕ Closing → Spot → Spot
under x (at_lone a t) = at_lone (x ∷ a) t
under x (at_lemma a b c t) = at_lemma (x ∷ a) b c t
under x (at_inner a l f k c t) = at_inner (x ∷ a) l f k c t
under x (at_closer a l b c t) = at_closer (x ∷ a) l b c t
under x missing = missing

abbrev pub inside : ℕ → ℕ → List ℕ → Closing → List (Item ℕ Closing) → Split → Spot → Spot
inside i l b c t (found f k) other = at_inner [] l f k c t
inside i l b c t unfound other = if nat_eq i c.id then at_closer [] l b c t else other

abbrev pub locate : ℕ → List (Item ℕ Closing) → Spot
locate i [] = missing
locate i (lone e ∷ t) = if nat_eq i e then at_lone [] t else under (lone e) (locate i t)
locate i (block l b c ∷ t) = if nat_eq i l then at_lemma [] b c t else inside i l b c t (split i b) (under (block l b c) (locate i t))

-- nothing stays behind an id, and no zone is open any more
abbrev pub dropped_inside : List (Item ℕ Closing) → ℕ → List ℕ → ℕ → Split → Line
dropped_inside a l b i (found f k) = record { items = a; focus = last (proof l (f ++ (i ∷ []))) }
dropped_inside a l b i unfound = record { items = a; focus = last (proof l b) }

abbrev pub dropped_open : ℕ → List (Item ℕ Closing) → Focus ℕ Closing → Line
dropped_open i a (last (proof l b)) =
    if nat_eq i l then record { items = a; focus = last (proof l []) } else dropped_inside a l b i (split i b)
dropped_open i a (last closed) = record { items = a; focus = last closed }
dropped_open i a (zone l b c t o) = record { items = a; focus = zone l b c t o }

abbrev pub dropped_at : ℕ → Spot → Line → Line
dropped_at i (at_lone a t) d = record { items = a ++ (lone i ∷ []); focus = last closed }
dropped_at i (at_lemma a b c t) d = record { items = a; focus = last (proof i []) }
dropped_at i (at_inner a l f k c t) d = record { items = a; focus = last (proof l (f ++ (i ∷ []))) }
dropped_at i (at_closer a l b c t) d = record { items = a ++ (block l b c ∷ []); focus = last closed }
dropped_at i missing d = dropped_open i d.items d.focus

abbrev pub dropped : ℕ → Line → Line
dropped i d = if nat_eq i 1 then empty else dropped_at i (locate i d.items) d

-- a zone is opened, or opened again, behind an id: what stands between it and the closer, or the cursor, goes
abbrev pub zoned_inside : List (Item ℕ Closing) → ℕ → List ℕ → Closing → List (Item ℕ Closing) → End ℕ → ℕ → Split → Line
zoned_inside a l b c t o i (found f k) = record { items = a; focus = zone l (f ++ (i ∷ [])) c t o }
zoned_inside a l b c t o i unfound = record { items = a; focus = zone l b c t o }

abbrev pub zoned_at : ℕ → Spot → Line → End ℕ → Line
zoned_at i (at_lemma a b c t) d o = record { items = a; focus = zone i [] c t o }
zoned_at i (at_inner a l f k c t) d o = record { items = a; focus = zone l (f ++ (i ∷ [])) c t o }
zoned_at i (at_lone a t) d o = d
zoned_at i (at_closer a l b c t) d o = d
zoned_at i missing d o = d

abbrev pub zoned_in : ℕ → Line → Focus ℕ Closing → Line
zoned_in i d (last o) = zoned_at i (locate i d.items) d o
zoned_in i d (zone l b c t o) =
    if nat_eq i l then record { items = d.items; focus = zone l [] c t o } else zoned_inside d.items l b c t o i (split i b)

-- a zone may be opened behind the lemma or an entry inside of a block that an opaque merge closed, where none is open
abbrev pub OpensAt : Spot → Type 0
OpensAt (at_lemma a b c t) = c.opaque ≡ true
OpensAt (at_inner a l f k c t) = c.opaque ≡ true
OpensAt (at_lone a t) = ⊥
OpensAt (at_closer a l b c t) = ⊥
OpensAt missing = ⊥

abbrev pub OpensIn : ℕ → List (Item ℕ Closing) → Focus ℕ Closing → Type 0
OpensIn i a (last o) = OpensAt (locate i a)
OpensIn i a (zone l b c t o) = has i (l ∷ b) ≡ true

abbrev pub Opens : ℕ → Line → Type 0
Opens i d = OpensIn i d.items d.focus

abbrev pub zoned : ℕ → Line → Line
zoned i d = zoned_in i d d.focus

-- the line may be cut behind an id, where it isn't 1: it is in the line and, where a zone is open, before its start
abbrev pub DropsIn : ℕ → List (Item ℕ Closing) → Focus ℕ Closing → Type 0
DropsIn i a (last o) = Unit {0}
DropsIn i a (zone l b c t o) = has i (items_ids a) ≡ true

abbrev pub Drops : ℕ → Line → Type 0
Drops i d = nat_eq i 1 ≡ false → (has i (ids d) ≡ true) × DropsIn i d.items d.focus
