-- Documents whose sentences were read.
use Rattle.std.specs.Prelude.{◌≡◌, ℕ, List, [], ◌∷◌, Option, Some, None}
use Rattle.line_theory.specs.Lists.{Every}
use Rattle.line_theory.specs.Shapes.{lone, block, closed, proof, last, zone}
use Rattle.line_theory.specs.Flat.{Role, alone, begins, within, closes}
use Rattle.vern_sentence.specs.Trees as made
use Rattle.vern_step.specs.Parsed.{HasTree, kind_in}
use Rattle.doc_theory.specs.Documents.{Sentence, Entry, Item, End, Focus, Document, Mark}
use Rattle.doc_theory.specs.Flat.{role_of}
use Rattle.doc_theory.specs.Checks.{Piece, piece, unread}
use Rattle.check_theory.specs.Pieces.{place_in_proofs}
use Rattle.check_theory.specs.Language.{tree_of}

-- its bytes are a sentence, and its kind is the one of their tree
abbrev pub IsRead : Sentence → Type 0
IsRead x = HasTree x.text × (x.kind ≡ place_in_proofs (kind_in x.text))

-- the sentence that a piece is was read
abbrev pub IsReadPiece : Piece → Type 0
IsReadPiece (piece p q x) = IsRead x
IsReadPiece (unread p) = Unit {0}

-- these live sentences were read
abbrev pub AreRead : List Mark → Type 0
AreRead ms = Every (λ m. IsRead m.sentence) ms

-- a tree with its id comes before others, if there is one
abbrev pub with_tree : ℕ → Option made.Sentence → List (ℕ × made.Sentence) → List (ℕ × made.Sentence)
with_tree i (Some t) ws = (i, t) ∷ ws
with_tree i None ws = ws

-- the trees of live sentences, each with its id
abbrev pub trees : List Mark → List (ℕ × made.Sentence)
trees [] = []
trees (m ∷ ms) = with_tree m.id (tree_of m.sentence) (trees ms)

-- ---- a document

-- an entry's sentence was read, and does this to the blocks
abbrev pub Does : Role → Entry → Type 0
Does r e = IsRead e.sentence × (role_of e.sentence.kind ≡ r)

-- each sentence of an item was read, and stands where its kind belongs
abbrev pub ItemRead : Item → Type 0
ItemRead (lone e) = Does alone e
ItemRead (block l b c) = Does begins l × Every (Does within) b × Does closes c

-- the same of what is open behind the items
abbrev pub EndRead : End → Type 0
EndRead closed = Unit {0}
EndRead (proof l b) = Does begins l × Every (Does within) b

-- the same of what stands at the cursor and behind it
abbrev pub FocusRead : Focus → Type 0
FocusRead (last o) = EndRead o
FocusRead (zone l b c t o) = (Does begins l × Every (Does within) b × Does closes c) × Every ItemRead t × EndRead o

-- the same of a whole document
abbrev pub DocumentRead : Document → Type 0
DocumentRead d = Every ItemRead d.items × FocusRead d.focus
