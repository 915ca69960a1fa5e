-- What holds of each document that commands make: inner sentences with_progress inside, kept closers can be opened again, and the ids of
-- lemmas rise along the list and are below the next id.
use Rattle.std.specs.Prelude.{◌≡◌, ℕ, suc, ◌≤◌, List, [], ◌∷◌, true}
use Rattle.line_theory.specs.Lists.{Every}
use Rattle.line_theory.specs.Shapes.{lone, block, closed, proof, last, zone}
use Rattle.doc_theory.specs.Documents.{inner, Entry, reopens, Item, End, Focus, Document}
use Rattle.doc_theory.specs.Editing.{Edited, unknown, refused_by, changed, Tried, refused, added}

abbrev pub IsInner : Entry → Type 0
IsInner e = e.sentence.kind ≡ inner

abbrev pub Formed : Item → Type 0
Formed (lone e) = Unit {0}
Formed (block l b c) = Every IsInner b

abbrev pub FormedEnd : End → Type 0
FormedEnd closed = Unit {0}
FormedEnd (proof l b) = Every IsInner b

abbrev pub FormedFocus : Focus → Type 0
FormedFocus (last o) = FormedEnd o
FormedFocus (zone l b c t o) = Every IsInner b × ((reopens c.sentence.kind ≡ true) × (Every Formed t × FormedEnd o))

-- the ids of the lemmas rise, from a number on, and are below another
abbrev pub Rises : ℕ → List Item → ℕ → Type 0
Rises lo [] hi = lo ≤ hi
Rises lo (lone e ∷ t) hi = Rises lo t hi
Rises lo (block l b c ∷ t) hi = (lo ≤ l.id) × Rises (suc l.id) t hi

abbrev pub RisesEnd : ℕ → End → ℕ → Type 0
RisesEnd lo closed hi = lo ≤ hi
RisesEnd lo (proof l b) hi = (lo ≤ l.id) × (suc l.id ≤ hi)

abbrev pub RisesFocus : ℕ → Focus → ℕ → Type 0
RisesFocus lo (last o) hi = RisesEnd lo o hi
RisesFocus lo (zone l b c t o) hi = (lo ≤ l.id) × ((m : ℕ) × (Rises (suc l.id) t m × RisesEnd m o hi))

pub record Sound (d : Document) : Type 0 where
  pub items : Every Formed d.items
  pub focus : FormedFocus d.focus
  pub middle : ℕ
  pub rises : Rises 0 d.items middle
  pub ends : RisesFocus middle d.focus d.next

-- what holds of the document that a sentence was added to, or that was edited
abbrev pub IfAdded : (Document → Type 0) → Tried → Type 0
IfAdded P (refused r) = Unit {0}
IfAdded P (added e i t) = P e

abbrev pub IfChanged : (Document → Type 0) → Edited → Type 0
IfChanged P unknown = Unit {0}
IfChanged P (refused_by k) = Unit {0}
IfChanged P (changed e) = P e
