-- The items of a text.
use Rattle.std.specs.Prelude.{ℕ, zero, suc, ◌+◌, ◌-◌, ◌==◌, List, [], ◌∷◌, ◌++◌, length, drop, Bool, true, false, Option, Some, None}
use Rattle.std.specs.Prelude.{if◌then◌else◌}
use Rattle.sexp_theory.specs.Values.{Value, atom}
use Rattle.sexp_theory.specs.Signs.{is_blank}
use Rattle.sexp_theory.specs.Places.{Found, nothing, unfinished, last_run, value, bad}
use Rattle.sexp_theory.specs.Machine.{found, found_behind_line}
use Rattle.sexp_theory.specs.declared.input.BadKind.{BadKind}
use Rattle.sexp_theory.specs.declared.input.InputEnd.{InputEnd}
use Rattle.sexp_theory.specs.declared.input.InputEnd.TheVariants.{Clean, Truncated}

-- a value with the offsets of its first byte and of the byte behind it, or a bad place
pub data Item : Type 0 where
  value_item : Value → ℕ → ℕ → Item
  bad_item : ℕ → BadKind → Item

-- bytes that are in no item yet: the offset of the first in all that was fed, and whether they begin inside a line that is passed over
pub record Unread : Type 0 where
  pub bytes : List ℕ
  pub at : ℕ
  pub skipping : Bool

-- what stands first in what is unread, computed
abbrev pub first_of : ℕ → Unread → Found
first_of limit u = if u.skipping then found_behind_line limit u.at u.bytes else found limit u.at u.bytes

-- what is unread from an offset on
abbrev pub from_offset : ℕ → Unread → Unread
from_offset offset u = record { bytes = drop (offset - u.at) u.bytes; at = offset; skipping = false }

-- the bytes without the blanks, comments and passed over lines at their front
abbrev mutual
  -- behind blanks and comments, from an offset on
  pub behind_gap : ℕ → List ℕ → Unread
  behind_gap at [] = record { bytes = []; at = at; skipping = false }
  behind_gap at (b ∷ rest) =
      if is_blank b then behind_gap (at + 1) rest else
      (if b == 59 then behind_line (at + 1) rest else record { bytes = b ∷ rest; at = at; skipping = false })

  -- behind the rest of a line, and the blanks and comments that follow it
  pub behind_line : ℕ → List ℕ → Unread
  behind_line at [] = record { bytes = []; at = at; skipping = true }
  behind_line at (b ∷ rest) = if b == 10 then behind_gap (at + 1) rest else behind_line (at + 1) rest

-- what is unread, without what stands in front of its first item
abbrev pub without_gap : Unread → Unread
without_gap u = if u.skipping then behind_line u.at u.bytes else behind_gap u.at u.bytes

-- what is unread behind a line whose bytes from an offset on are these: the line ends with its first byte 10
abbrev pub behind_rest_of_line : ℕ → List ℕ → Unread
behind_rest_of_line at [] = record { bytes = []; at = at; skipping = true }
behind_rest_of_line at (b ∷ rest) = if b == 10 then record {
  bytes = rest;
  at = at + 1;
  skipping = false;
} else behind_rest_of_line (at + 1) rest

-- the first item, and what is unread behind it
pub record Taken : Type 0 where
  pub item : Item
  pub rest : Unread

-- the item that was found, if the text goes on, or (ended) if it is the whole input
abbrev pub taken_of : Bool → Unread → Found → Option Taken
taken_of ended u nothing = None
taken_of ended u (unfinished from) = None
taken_of ended u (last_run run from) = if ended then Some
    (record { item = value_item (atom run) from (u.at + length u.bytes); rest = from_offset (u.at + length u.bytes) u }) else None
taken_of ended u (value v from to) = Some (record { item = value_item v from to; rest = from_offset to u })
taken_of ended u (bad kind offset) = Some (record {
  item = bad_item offset kind;
  rest = behind_rest_of_line offset (drop (offset - u.at) u.bytes);
})

-- the first item of what is unread, and what is unread behind it; none where no item is whole
abbrev pub next_item : ℕ → Bool → Unread → Option Taken
next_item limit ended u = taken_of ended u (first_of limit u)

-- the items of the bytes, at most so many
abbrev pub items_up_to : ℕ → ℕ → Bool → Unread → List Item
items_up_to limit zero ended u = []
items_up_to limit (suc most) ended u = elim (next_item limit ended u) [ None ↦ [] | Some t ↦ t.item ∷ items_up_to limit most ended t.rest ]

-- the items of the bytes: each has a byte at least
abbrev pub items_of : ℕ → Bool → Unread → List Item
items_of limit ended u = items_up_to limit (length u.bytes) ended u

-- ---- bytes that come in pieces

-- nothing was fed yet
abbrev pub fresh : Unread
fresh = record { bytes = []; at = 0; skipping = false }

-- a piece more
abbrev pub fed : Unread → List ℕ → Unread
fed u piece = record { bytes = u.bytes ++ piece; at = u.at; skipping = u.skipping }

-- a text that begins at the offset 0
abbrev pub whole_text : List ℕ → Unread
whole_text bytes = fed fresh bytes

-- ---- the whole input

-- how the input ends, if what was found first is no whole item
abbrev pub end_of_found : Found → InputEnd
end_of_found (unfinished from) = Truncated from
end_of_found other = Clean

-- how the input ends that has these bytes left and at most so many items more
abbrev pub end_up_to : ℕ → ℕ → Unread → InputEnd
end_up_to limit zero u = end_of_found (first_of limit u)
end_up_to limit (suc most) u = elim (next_item limit true u)
    [ None ↦ end_of_found (first_of limit u) | Some t ↦ end_up_to limit most t.rest ]

-- how the input ends whose last bytes are unread
abbrev pub end_of : ℕ → Unread → InputEnd
end_of limit u = end_up_to limit (length u.bytes) u

-- the most bytes that an item has
abbrev pub most_bytes : ℕ
most_bytes = 1048576

-- the offset behind the last byte that was fed
abbrev pub end_offset : Unread → ℕ
end_offset u = u.at + length u.bytes

-- the item that is the last of the input, if there is one
abbrev pub last_items : Option Taken → List Item
last_items None = []
last_items (Some t) = t.item ∷ []
