-- The parts of an item.
use Rattle.std.specs.Prelude.{ℕ, List, [], ◌∷◌, ◌++◌, take, drop, zero, suc, Bool, true, false, Option, Some, None}
use Rattle.vcs_graph.specs.declared.place.Part.{Part}
use Rattle.vcs_graph.specs.declared.place.Part.TheVariants as part
use Rattle.line_theory.specs.Shapes.{Item, lone, block, End, closed, proof}
use Rattle.line_theory.specs.Lines.{Closing, items_ids, end_ids}
use Rattle.vcs_graph.specs.declared.segment.Closer.{Closer}

-- the first id of an item
abbrev pub first_of : Item ℕ Closing → ℕ
first_of (lone i) = i
first_of (block l b c) = l

-- what is inside of an item
abbrev pub inside_of : Item ℕ Closing → List ℕ
inside_of (lone i) = []
inside_of (block l b c) = b

-- the closer of an item, if it has one
abbrev pub closer_of : Item ℕ Closing → Option Closer
closer_of (lone i) = None
closer_of (block l b c) = Some (record { id = c.id; opaque = c.opaque })

-- the last id of an item
abbrev pub stop_of : Item ℕ Closing → ℕ
stop_of (lone i) = i
stop_of (block l b c) = c.id

-- a block with this closer
abbrev pub ended : ℕ → List ℕ → Closer → Item ℕ Closing
ended l b c = block l b (record { id = c.id; opaque = c.opaque })

-- an item is a block
abbrev pub IsBlock : Item ℕ Closing → Type 0
IsBlock (lone i) = ⊥
IsBlock (block l b c) = Unit {0}

-- a block with another inside
abbrev pub with_inside : List ℕ → Item ℕ Closing → Item ℕ Closing
with_inside b (lone i) = lone i
with_inside b (block l k c) = block l b c

-- the lemma of the block that is open at the end, if one is
abbrev pub lemma_of : End ℕ → Option ℕ
lemma_of closed = None
lemma_of (proof l b) = Some l

-- what is inside of it
abbrev pub body_of : End ℕ → List ℕ
body_of closed = []
body_of (proof l b) = b

-- a block is open at the end
abbrev pub IsOpen : End ℕ → Type 0
IsOpen closed = ⊥
IsOpen (proof l b) = Unit {0}

-- an open block with another inside
abbrev pub with_body : List ℕ → End ℕ → End ℕ
with_body b closed = closed
with_body b (proof l k) = proof l b

-- the open block, closed
abbrev pub ended_of : End ℕ → Closer → Item ℕ Closing
ended_of closed c = lone 1
ended_of (proof l b) c = ended l b c

-- one less
abbrev pub pred : ℕ → ℕ
pred zero = zero
pred (suc n) = n

-- what stands before a part of a block, an item or the end, in it
abbrev pub block_front : Part → ℕ → List ℕ → List ℕ
block_front part.First l b = []
block_front (part.Inside j) l b = l ∷ take (pred j) b
block_front part.Closer l b = l ∷ b

-- the same of an item
abbrev pub part_front : Part → Item ℕ Closing → List ℕ
part_front p (lone i) = []
part_front p (block l b c) = block_front p l b

-- and of the end
abbrev pub end_front : Part → End ℕ → List ℕ
end_front p closed = []
end_front p (proof l b) = block_front p l b

-- how many entries of the inside stay where all behind a part goes
abbrev pub keep : Part → ℕ
keep part.First = 0
keep (part.Inside j) = j
keep part.Closer = 0

-- how many stay where a part of a block, whose inside has so many, goes with all behind it
abbrev pub kept_before : Part → ℕ → ℕ
kept_before part.First n = 0
kept_before (part.Inside j) n = pred j
kept_before part.Closer n = n

-- a block loses its closer and keeps its lemma where all behind a part goes, or where a part goes with all behind it
abbrev pub opens_behind : Part → Item ℕ Closing → Bool
opens_behind p (lone i) = false
opens_behind part.First (block l b c) = true
opens_behind (part.Inside j) (block l b c) = true
opens_behind part.Closer (block l b c) = false

-- the same where the part goes too
abbrev pub opens_from : Part → Item ℕ Closing → Bool
opens_from p (lone i) = false
opens_from part.First (block l b c) = false
opens_from (part.Inside j) (block l b c) = true
opens_from part.Closer (block l b c) = true

-- what stays of some items and the one behind them, where all behind a part of that one goes
abbrev pub cut_items : Part → List (Item ℕ Closing) → Item ℕ Closing → List (Item ℕ Closing)
cut_items part.First f (lone i) = f ++ (lone i ∷ [])
cut_items part.First f (block l b c) = f
cut_items (part.Inside j) f (lone i) = f ++ (lone i ∷ [])
cut_items (part.Inside j) f (block l b c) = f
cut_items part.Closer f x = f ++ (x ∷ [])

-- the end that is left where all behind a part of an item goes
abbrev pub cut_end : Part → Item ℕ Closing → End ℕ
cut_end part.First (lone i) = closed
cut_end part.First (block l b c) = proof l []
cut_end (part.Inside j) (lone i) = closed
cut_end (part.Inside j) (block l b c) = proof l (take j b)
cut_end part.Closer x = closed

-- what stays open where a part of an item goes with all behind it
abbrev pub left_end : Part → Item ℕ Closing → End ℕ
left_end part.First x = closed
left_end (part.Inside j) (lone i) = closed
left_end (part.Inside j) (block l b c) = proof l (take (pred j) b)
left_end part.Closer (lone i) = closed
left_end part.Closer (block l b c) = proof l b

-- what stays of the block that is open at the end
abbrev pub end_left : Part → End ℕ → End ℕ
end_left part.First o = closed
end_left (part.Inside j) o = with_body (take (pred j) (body_of o)) o
end_left part.Closer o = o

-- a part of an item, or of the end, and all behind it there
abbrev pub part_rest : Part → Item ℕ Closing → List ℕ
part_rest p (lone i) = i ∷ []
part_rest part.First (block l b c) = l ∷ (b ++ (c.id ∷ []))
part_rest (part.Inside j) (block l b c) = drop (pred j) b ++ (c.id ∷ [])
part_rest part.Closer (block l b c) = c.id ∷ []

-- the same of the end
abbrev pub end_rest : Part → End ℕ → List ℕ
end_rest p closed = []
end_rest part.First (proof l b) = l ∷ b
end_rest (part.Inside j) (proof l b) = drop (pred j) b
end_rest part.Closer (proof l b) = []

-- a part of the first of some items and all behind it; where there is no item, of the end
abbrev pub rest_at : Part → List (Item ℕ Closing) → End ℕ → List ℕ
rest_at p (x ∷ t) o = part_rest p x ++ (items_ids t ++ end_ids o)
rest_at p [] o = end_rest p o
