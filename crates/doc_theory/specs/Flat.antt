-- A document as a flat list and a cursor: what stands before the cursor, what stands behind it, and how blocks are read off.
use Rattle.std.specs.Prelude.{ℕ, List, ◌++◌}
use Rattle.line_theory.specs.Lists.{Every}
use Rattle.line_theory.specs.Flat.{
  Role,
  alone,
  begins,
  within,
  closes,
  Reading,
  items_entries,
  front_entries,
  back_entries,
  blank,
  read,
  focus_from,
  Ruled,
  RuledFocus,
}
use Rattle.doc_theory.specs.Documents.{Kind, plain, begin, inner, close, Entry, Document}

-- what a sentence's kind does to the blocks
abbrev pub role_of : Kind → Role
role_of plain = alone
role_of begin = begins
role_of inner = within
role_of (close k) = closes

-- an entry is read by its sentence's kind; a closer is an entry
abbrev pub reading : Reading Entry Entry
reading = record { role = λ e. role_of e.sentence.kind; closer = λ e. e; entry = λ e. e }

-- the entries before the cursor, and those behind it
abbrev pub front : Document → List Entry
front d = items_entries reading d.items ++ front_entries d.focus

abbrev pub back : Document → List Entry
back d = back_entries reading d.focus

-- the document of two flat lists
abbrev pub from_lists : List Entry → List Entry → ℕ → ℕ → Document
from_lists before behind next limit =
    record {
      items = (read reading blank before).items;
      focus = focus_from reading (read reading blank before).end behind;
      next = next;
      limit = limit;
    }

-- sentences of each kind stand where they belong
abbrev pub IsRuled : Document → Type 0
IsRuled d = Every (Ruled reading) d.items × RuledFocus reading d.focus
