-- The line: the live ids in the order of the document, and what each change makes of it.
use Rattle.std.specs.Prelude.{suc, None, ◌≡◌, ℕ, ◌≤◌, ◌<◌, List, map, Some}
use Rattle.line_theory.specs.Lists.{Every, Distinct, IsGrown}
use Rattle.line_theory.specs.Shapes.{closed, proof, last, zone}
use Rattle.doc_theory.specs.Documents.{Entry, Focus, Document, live}
use Rattle.doc_theory.specs.Editing.{Tried, refused, added}

abbrev pub line : Document → List ℕ
line d = map (λ e. e.id) (live d)

-- what a sentence that was added makes of the line: the next id comes in, or a kept closer's id stays where it is
abbrev pub IsAddedTo : Document → Tried → Type 0
IsAddedTo d (refused r) = Unit {0}
IsAddedTo d (added e i None) = IsGrown i (line d) (line e) × (i ≡ d.next)
IsAddedTo d (added e i (Some t)) = line e ≡ line d

-- the next id rises by one where one is given, and stays where a kept closer's is taken
abbrev pub HasNext : Document → Tried → Type 0
HasNext d (refused r) = Unit {0}
HasNext d (added e i None) = e.next ≡ suc d.next
HasNext d (added e i (Some t)) = e.next ≡ d.next

-- ids are distinct, from 2 on, and below the next id
pub record HasIds (d : Document) : Type 0 where
  pub distinct : Distinct (line d)
  pub bounds : Every (λ n. (2 ≤ n) × (n < d.next)) (line d)
  pub next : 2 ≤ d.next

-- the block that is open at the cursor, at the end or in a zone
abbrev pub IsOpen : Focus → Entry → List Entry → Type 0
IsOpen (last closed) l b = ⊥
IsOpen (last (proof m f)) l b = (m ≡ l) × (f ≡ b)
IsOpen (zone m f c t o) l b = (m ≡ l) × (f ≡ b)
