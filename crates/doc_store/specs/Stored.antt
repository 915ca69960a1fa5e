-- A document whose shape is a line of ids, with what is kept of each id.
use Rattle.std.specs.Prelude.{◌≡◌, ℕ, List, map, length, true, false, nat_eq, Option, Some, None, is_some}
use Rattle.line_theory.specs.Lists.{Every, chosen}
use Rattle.line_theory.specs.Shapes.{map_item, map_focus, lone, block, last, zone}
use Rattle.line_theory.specs.Lines.{Line}
use Rattle.edit_core.specs.declared.removal.Removal.{Removal}
use Rattle.edit_core.specs.declared.removal.Removal.TheVariants as removal
use Rattle.edit_core.specs.declared.edit.Edited.{Edited as Told}
use Rattle.edit_core.specs.declared.edit.Edited.TheVariants as told
use Rattle.serapi_ans.specs.declared.line.EditLine.{EditLine}
use Rattle.serapi_ans.specs.declared.line.EditLine.TheVariants as edit_line
use Rattle.doc_theory.specs.Lists.{Member}
use Rattle.doc_theory.specs.Documents.{Entry, delegates, Item, Focus, Document, outside, live, marks}
use Rattle.doc_theory.specs.Editing.{Edited, unknown, refused_by, changed, outcome, refused, added}
use Rattle.doc_theory.specs.Editing as editing
use Rattle.doc_theory.specs.Invariants.{Sound}
use Rattle.doc_theory.specs.Line.{line, HasIds}
use Rattle.doc_theory.specs.Shape.{shape}
use Rattle.doc_store.specs.declared.slots.Slot.{Slot}
use Rattle.doc_store.specs.declared.store.Tried.{Tried}
use Rattle.doc_store.specs.declared.store.Tried.TheVariants.{Refused, Added}
use Rattle.doc_store.specs.Slots.{entry_at, slot_at, text_at}

-- ---- a document

-- a line with an entry for each id
abbrev pub filled : (ℕ → Entry) → Line → ℕ → ℕ → Document
filled f l next limit = record {
  items = map (map_item f (λ c. f c.id)) l.items;
  focus = map_focus f (λ c. f c.id) l.focus;
  next = next;
  limit = limit;
}

-- the document of a line, of what is kept of its ids, and of a limit of sentences; the next id is the first of which nothing is kept
abbrev pub document_of : Line → List (Option Slot) → ℕ → Document
document_of l slots limit = filled (entry_at slots) l (length slots) limit

-- a verdict that was told, by its text; none where it is good
pub record Note : Type 0 where
  pub id : ℕ
  pub text : Option (List ℕ)

-- the verdicts of the entries that are told, in order
abbrev pub notes_by : (ℕ → Option (List ℕ)) → List Entry → List Note
notes_by f es = map (λ e. record { id = e.id; text = f e.id }) (chosen (λ e. e.told) es)

-- a document, with the verdicts of its entries that are told
pub record Stored : Type 0 where
  pub document : Document
  pub notes : List Note

abbrev pub stored : Line → List (Option Slot) → ℕ → Stored
stored l slots limit = record {
  document = document_of l slots limit;
  notes = notes_by (text_at slots) (live (document_of l slots limit));
}

-- ---- what it keeps

abbrev pub IsUntold : Entry → Type 0
IsUntold e = e.told ≡ false

-- nothing is told inside of a delegated block
abbrev pub QuietItem : Item → Type 0
QuietItem (lone e) = Unit {0}
QuietItem (block l b c) = delegates c.sentence.kind ≡ true → Every IsUntold b × IsUntold c

abbrev pub QuietFocus : Focus → Type 0
QuietFocus (last o) = Unit {0}
QuietFocus (zone l b c t o) = Every QuietItem t

abbrev pub IsQuiet : Document → Type 0
IsQuiet d = Every QuietItem d.items × QuietFocus d.focus

-- of each of these ids a sentence is kept
abbrev pub Held : List (Option Slot) → List ℕ → Type 0
Held slots ns = Every (λ n. is_some (slot_at slots n) ≡ true) ns

-- the document's shape is the line, with its closers as they are; inner sentences stand inside; ids are distinct and below the next;
-- nothing is told inside of delegated blocks; and of each live id a sentence is kept
pub record IsKept (l : Line) (slots : List (Option Slot)) (d : Document) : Type 0 where
  pub shape : shape d ≡ l
  pub sound : Sound d
  pub ids : HasIds d
  pub quiet : IsQuiet d
  pub held : Held slots (line d)

-- ---- what its calls leave

-- each verdict was there before
abbrev pub Fewer : List Note → List Note → Type 0
Fewer old new = (n : Note) → Member n new → Member n old

-- a sentence was refused, or added, and this is the document behind it
abbrev pub tried_of : Tried → Document → editing.Tried
tried_of (Refused x) d = refused x
tried_of (Added i t) d = added d i t

-- a refusal changes nothing
abbrev pub IfRefused : Tried → Type 0 → Type 0
IfRefused (Refused x) P = P
IfRefused (Added i t) P = Unit {0}

-- how an edit is told, in the protocol's words
abbrev pub line_of : Told → Option EditLine
line_of (told.NewTip i) = Some (edit_line.NewTip i)
line_of (told.Focus l c t) = Some (edit_line.Focus l c t)
line_of (told.ZoneOpen c) = None
line_of told.NoSuchState = None

-- an id wasn't live; it stands at or behind the kept closer; or it went, the edit is told so, and this is the document behind it
abbrev pub IsRemoval : Removal → Edited → Document → Document → Type 0
IsRemoval removal.Unknown r d e = (r ≡ unknown) × (e ≡ d)
IsRemoval (removal.Refused k) r d e = (r ≡ refused_by k) × (e ≡ d)
IsRemoval (removal.Removed x) r d e = (r ≡ changed e) × (line_of x ≡ Some (outcome e))

-- the sentence with an id stands outside of the bodies of delegated blocks
abbrev pub Outside : ℕ → Document → Type 0
Outside i d = Every (λ m. nat_eq m.id i ≡ true → m.home ≡ outside) (marks d)
