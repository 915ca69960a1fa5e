-- The table that leads from each id to its place.
use Rattle.std.specs.Prelude.{◌≡◌, ℕ, suc, nat_eq, List, [], ◌∷◌, ◌++◌, length, Option, None}
use Rattle.std.specs.Map.{lookup}
use Rattle.indexmap.specs.IndexMap.{IndexMap, get, index_map_len}
use Rattle.line_theory.specs.Shapes.{Item, lone, block, End, closed, proof}
use Rattle.line_theory.specs.Lines.{Closing}
use Rattle.vcs_graph.specs.declared.place.Place.{Place}
use Rattle.vcs_graph.specs.declared.place.Part.TheVariants.{First, Inside, Closer}

-- the value at the first pair with this number
abbrev pub look : {V : Type 0} → ℕ → List (ℕ × V) → Option V
look q es = lookup (nat_eq q) es

-- no number is in two pairs
abbrev pub Apart : {V : Type 0} → List (ℕ × V) → Type 0
Apart [] = Unit {0}
Apart (e ∷ es) = (look e.0 es ≡ None) × Apart es

-- the entries inside of an item, from a number on
abbrev pub inner_places : ℕ → ℕ → List ℕ → List (ℕ × Place)
inner_places k j [] = []
inner_places k j (i ∷ b) = (i, record { item = k; part = Inside j }) ∷ inner_places k (suc j) b

-- the ids of an item with their places, the item having this number
abbrev pub item_places : ℕ → Item ℕ Closing → List (ℕ × Place)
item_places k (lone i) = (i, record { item = k; part = First }) ∷ []
item_places k (block l b c) = (l, record { item = k; part = First })
    ∷ (inner_places k 1 b ++ ((c.id, record { item = k; part = Closer }) ∷ []))

-- those of some items, from this number on
abbrev pub items_places : ℕ → List (Item ℕ Closing) → List (ℕ × Place)
items_places k [] = []
items_places k (x ∷ xs) = item_places k x ++ items_places (suc k) xs

-- those of the block that is open at the end, which has this number
abbrev pub end_places : ℕ → End ℕ → List (ℕ × Place)
end_places k closed = []
end_places k (proof l b) = (l, record { item = k; part = First }) ∷ inner_places k 1 b

-- each id of the line with its place, in order
abbrev pub all_places : List (Item ℕ Closing) → End ℕ → List (ℕ × Place)
all_places a o = items_places 0 a ++ end_places (length a) o

-- a map has just these pairs, of numbers that differ
pub record IsTable {V S : Type 0} (m : IndexMap ℕ V S) (es : List (ℕ × V)) : Type 0 where
  pub same : (q : ℕ) → get nat_eq m q ≡ look q es
  pub apart : Apart es
  pub size : index_map_len m ≡ length es
