-- What a text is read as.
use Rattle.std.specs.Prelude.{◌≡◌, ◌≤◌, ℕ, List, [], length, Bool, false}
use Rattle.sexp_theory.specs.Values.{Value, atom, list, nesting, HasBytes}
use Rattle.sexp_theory.specs.Writing.{is_bare_atom, text}
use Rattle.sexp_theory.specs.Places.{most_lists}
use Rattle.sexp_theory.specs.Items.{Item, value_item, bad_item, Taken}

-- an atom that is written without quotes: its text goes on for as long as it may
abbrev pub is_bare_value : Value → Bool
is_bare_value (atom bytes) = is_bare_atom bytes
is_bare_value (list vs) = false

-- the value as the only item of its text, with nothing left
abbrev pub sole_item : Value → Taken
sole_item v = record { item = value_item v 0 (length (text v)); rest = record { bytes = []; at = length (text v); skipping = false } }

-- a bad place, or a value of bytes
abbrev pub IsOfBytes : Item → Type 0
IsOfBytes (value_item v from to) = HasBytes v
IsOfBytes (bad_item offset kind) = Unit {0}

-- a bad place, or a value with no more lists inside one another than an item may have
abbrev pub IsShallow : Item → Type 0
IsShallow (value_item v from to) = nesting v ≤ most_lists
IsShallow (bad_item offset kind) = Unit {0}

-- a value with the text of which a reader's input begins, and a byte behind it that ends it: what is taken
abbrev pub first_item : Value → List ℕ → Taken
first_item v behind = record {
  item = value_item v 0 (length (text v));
  rest = record { bytes = behind; at = length (text v); skipping = false };
}

-- the bytes are the text of the value, which has no more lists inside one another than an item may have
pub record IsTextOf (bytes : List ℕ) (v : Value) : Type 0 where
  pub of_bytes : HasBytes v
  pub shallow : nesting v ≤ most_lists
  pub written : text v ≡ bytes
