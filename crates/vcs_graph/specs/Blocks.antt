-- The block that holds an id.
use Rattle.std.specs.Prelude.{ℕ, List, [], ◌∷◌, false, if◌then◌else◌, Option, Some, None}
use Rattle.line_theory.specs.Lists.{has}
use Rattle.line_theory.specs.Shapes.{Item, closed, proof, Focus, last, zone}
use Rattle.line_theory.specs.Lines.{Closing, Line, Spot, at_lone, at_lemma, at_inner, at_closer, missing, locate}
use Rattle.vcs_graph.specs.declared.graph.Block.{Block}
use Rattle.vcs_graph.specs.Parts.{inside_of}

-- a block with its closer
abbrev pub held : ℕ → Closing → Block
held l c = record { start = l; stop = Some c.id; opaque = c.opaque }

-- the block that is open at the end, if the id is in it
abbrev pub open_block : ℕ → Focus ℕ Closing → Option Block
open_block i (last closed) = None
open_block i (last (proof l b)) = if has i (l ∷ b) then Some (record { start = l; stop = None; opaque = false }) else None
open_block i (zone l b c t o) = None

-- the block of where an id stands
abbrev pub block_at : ℕ → Spot → Focus ℕ Closing → Option Block
block_at i (at_lone a t) f = None
block_at i (at_lemma a b c t) f = Some (held i c)
block_at i (at_inner a l e k c t) f = Some (held l c)
block_at i (at_closer a l b c t) f = Some (held l c)
block_at i missing f = open_block i f

-- of a line with no zone: closing a zone changes neither the line nor its blocks
abbrev pub block_in : ℕ → Line → Option Block
block_in i d = block_at i (locate i d.items) d.focus

-- the lemma of the block in which the cursor stands
abbrev pub open_in : Focus ℕ Closing → Option ℕ
open_in (last closed) = None
open_in (last (proof l b)) = Some l
open_in (zone l b c t o) = Some l

-- what is inside of it, up to the cursor
abbrev pub inside_in : Focus ℕ Closing → List ℕ
inside_in (last closed) = []
inside_in (last (proof l b)) = b
inside_in (zone l b c t o) = b

-- what is inside of the last of some items
abbrev pub inside_last : List (Item ℕ Closing) → List ℕ
inside_last [] = []
inside_last (x ∷ []) = inside_of x
inside_last (x ∷ y ∷ ys) = inside_last (y ∷ ys)
