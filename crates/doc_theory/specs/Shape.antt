-- The line of a document as the graph has it: ids alone, and at each closer whether its block can be opened again.
use Rattle.std.specs.Prelude.{◌≡◌, ℕ, Bool, List, map, Option, Some, None}
use Rattle.serapi_ans.specs.declared.line.Line.TheVariants.{EditAt}
use Rattle.serapi_ans.specs.declared.line.Exn.{Exn}
use Rattle.serapi_ans.specs.declared.line.Exn.TheVariants as exn
use Rattle.serapi_ans.specs.declared.line.EditLine.{EditLine}
use Rattle.serapi_ans.specs.declared.line.EditLine.TheVariants as told
use Rattle.line_theory.specs.Shapes as shapes
use Rattle.line_theory.specs.Shapes.{map_item, map_end, map_focus, last, zone}
use Rattle.line_theory.specs.Lines as lines
use Rattle.line_theory.specs.Lines.{Closing}
use Rattle.line_theory.specs.Edits as edits
use Rattle.doc_theory.specs.Documents.{Kind, plain, begin, inner, close, Entry, reopens, Item, End, Focus, Document}
use Rattle.doc_theory.specs.Editing.{Edited, unknown, refused_by, changed}
use Rattle.doc_theory.specs.Answers.{Removed}

abbrev pub closing : Entry → Closing
closing c = record { id = c.id; opaque = reopens c.sentence.kind }

abbrev pub shape_items : List Item → List (shapes.Item ℕ Closing)
shape_items xs = map (map_item (λ e. e.id) closing) xs

abbrev pub shape_end : End → shapes.End ℕ
shape_end o = map_end (λ e. e.id) o

abbrev pub shape_focus : Focus → shapes.Focus ℕ Closing
shape_focus f = map_focus (λ e. e.id) closing f

abbrev pub shape : Document → lines.Line
shape d = record { items = shape_items d.items; focus = shape_focus d.focus }

abbrev pub shape_edited : Edited → edits.Edited
shape_edited unknown = edits.unknown
shape_edited (refused_by k) = edits.zone_open k
shape_edited (changed e) = edits.changed (shape e)

-- how an edit is told, in the protocol's words
abbrev pub told_as : edits.Outcome → EditLine
told_as (edits.new_tip i) = told.NewTip i
told_as (edits.focused l c t) = told.Focus l c t

-- what ended a Cancel
abbrev pub stop_of : Option (ℕ × ℕ) → Option Exn
stop_of None = None
stop_of (Some (i, k)) = Some (exn.ZoneOpen i k)

-- a Cancel of the document is the Cancel of its line
pub record CancelsAs (tag : List ℕ) (r : Removed) (c : edits.Cancelled) : Type 0 where
  pub line : c.line ≡ shape r.document
  pub lines : r.lines ≡ map (λ o. EditAt tag (told_as o)) c.edits
  pub gone : r.gone ≡ c.gone
  pub treated : r.treated ≡ c.treated
  pub stop : r.stop ≡ stop_of c.stopped

-- a closer closes the block at the end, or the zone
abbrev pub closed_in : ℕ → Bool → lines.Line → shapes.Focus ℕ Closing → lines.Line
closed_in i opaque d (last o) = lines.merged i opaque d
closed_in i opaque d (zone l b c t o) = lines.refolded d

-- what a sentence of a kind that is added makes of the line
abbrev pub put : Kind → ℕ → lines.Line → lines.Line
put plain i d = lines.committed i d
put begin i d = lines.begun i d
put inner i d = lines.committed i d
put (close k) i d = closed_in i (reopens (close k)) d d.focus
