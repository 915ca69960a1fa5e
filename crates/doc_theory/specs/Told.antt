-- Which entries of a document are told.
use Rattle.std.specs.Prelude.{◌≡◌, ℕ, true, false}
use Rattle.line_theory.specs.Lists.{Every, has}
use Rattle.doc_theory.specs.Lists.{Member}
use Rattle.line_theory.specs.Shapes.{lone, block, closed, proof, last, zone}
use Rattle.doc_theory.specs.Documents.{Entry, delegates, Item, End, Focus, Document, bodies}
use Rattle.doc_theory.specs.Histories.{done, Row, blocks, IsJoining, Standing}

abbrev pub IsTold : Entry → Type 0
IsTold e = e.told ≡ true

-- the inside and the closer of the delegated block with this lemma are told
abbrev pub BodyTold : ℕ → Item → Type 0
BodyTold n (lone e) = Unit {0}
BodyTold n (block l b c) = delegates c.sentence.kind ≡ true → l.id ≡ n → Every IsTold b × IsTold c

abbrev pub FocusBodyTold : ℕ → Focus → Type 0
FocusBodyTold n (last o) = Unit {0}
FocusBodyTold n (zone l b c t o) = Every (BodyTold n) t

abbrev pub BlockTold : ℕ → Document → Type 0
BlockTold n d = Every (BodyTold n) d.items × FocusBodyTold n d.focus

-- all that stands outside of the bodies of delegated blocks is told
abbrev pub RestTold : Item → Type 0
RestTold (lone e) = IsTold e
RestTold (block l b c) = IsTold l × (delegates c.sentence.kind ≡ false → Every IsTold b × IsTold c)

abbrev pub EndTold : End → Type 0
EndTold closed = Unit {0}
EndTold (proof l b) = IsTold l × Every IsTold b

abbrev pub FocusTold : Focus → Type 0
FocusTold (last o) = EndTold o
FocusTold (zone l b c t o) = (IsTold l × Every IsTold b) × (IsTold c × (Every RestTold t × EndTold o))

abbrev pub OutsideTold : Document → Type 0
OutsideTold d = Every RestTold d.items × FocusTold d.focus

-- what a Join waits for: all but the bodies of delegated blocks is told, and each of these blocks has a row
pub record IsAsked {State : Type 0} (p : Standing State) : Type 0 where
  pub outside : OutsideTold p.document
  pub rows : (n : ℕ) → has n (bodies p.document) ≡ true → has n (blocks p.table.rows) ≡ true

-- the block of a row that is done is told, and in a Join all is asked for
pub record Tells {State : Type 0} (p : Standing State) : Type 0 where
  pub done : (r : Row State) → Member r p.table.rows → r.progress ≡ done → BlockTold r.block p.document
  pub joining : IsJoining p.mode → IsAsked p
