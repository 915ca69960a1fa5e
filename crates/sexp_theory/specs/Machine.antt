-- What stands first in a text, computed byte by byte. It is joined to the words of Spelling and Places by the laws of this crate.
use Rattle.std.specs.Prelude.{ℕ, ◌+◌, ◌-◌, ◌*◌, ◌&&◌, ◌||◌, ◌==◌, List, [], ◌∷◌, ◌++◌, length, Bool, true, false, not, nat_lt, nat_le}
use Rattle.std.specs.Prelude.{if◌then◌else◌}
use Rattle.std.specs.Char.{digit_value}
use Rattle.sexp_theory.specs.Values.{Value, atom, list, values}
use Rattle.sexp_theory.specs.Signs.{is_blank, is_delimiter, is_decimal, is_hexadecimal, letter_value}
use Rattle.sexp_theory.specs.Places.{most_lists, Found, nothing, unfinished, last_run, value, bad}
use Rattle.sexp_theory.specs.declared.input.BadKind.{BadKind}
use Rattle.sexp_theory.specs.declared.input.BadKind.TheVariants.{StrayClose, BadEscape, TooDeep, TooLong, HashBar}

-- where the bytes of an item so far end: between values, in a comment, in a run whose last byte is no `#` or is one, between quotes,
-- or in an escape: behind its backslash, behind its first or second decimal digit, behind its `x`, behind its first hexadecimal digit
pub data Mode : Type 0 where
  between commented run hash quoted : Mode
  escaped : Mode
  decimal1 : ℕ → Mode
  decimal2 : ℕ → Mode
  hexadecimal0 : Mode
  hexadecimal1 : ℕ → Mode

-- the bytes of an item so far: where they end, the bytes of the atom there, and the values of each list that is open, the innermost first
pub record State : Type 0 where
  pub mode : Mode
  pub atom : List ℕ
  pub lists : List (List Value)

-- what a byte makes of them: an item that goes on, its end with this byte, or a bad place, so many bytes before this one
pub data Step : Type 0 where
  on : State → Step
  whole : Value → Step
  shown : BadKind → ℕ → Step

-- the item goes on in another mode
abbrev pub in_mode : Mode → State → Step
in_mode mode s = on (record { mode = mode; atom = s.atom; lists = s.lists })

-- one byte more of an atom
abbrev pub add_byte : Mode → ℕ → State → Step
add_byte mode b s = on (record { mode = mode; atom = s.atom ++ b ∷ []; lists = s.lists })

-- a value ends inside these lists
abbrev pub ends_value : Value → List (List Value) → Step
ends_value v [] = whole v
ends_value v (vs ∷ lists) = on (record { mode = between; atom = []; lists = (vs ++ v ∷ []) ∷ lists })

-- a `)`: the innermost list is a value
abbrev pub closes : List (List Value) → Step
closes [] = shown StrayClose 0
closes (vs ∷ lists) = ends_value (list (values vs)) lists

-- a `(`: one list more is open
abbrev pub opens : List (List Value) → Step
opens lists = if nat_lt (length lists) most_lists then on (record { mode = between; atom = []; lists = [] ∷ lists }) else shown TooDeep 0

-- the mode behind a byte of a run
abbrev pub run_mode : ℕ → Mode
run_mode b = if b == 35 then hash else run

-- between values
abbrev pub step_between : List (List Value) → ℕ → Step
step_between lists b =
    if is_blank b then on (record { mode = between; atom = []; lists = lists })
    else (if b == 59 then on (record { mode = commented; atom = []; lists = lists })
    else (if b == 40 then opens lists
    else (if b == 41 then closes lists
    else (if b == 34 then on (record { mode = quoted; atom = []; lists = lists })
    else on (record { mode = run_mode b; atom = b ∷ []; lists = lists })))))

-- the value of a run ends before the byte, which is a delimiter
abbrev pub step_behind_run : List ℕ → List (List Value) → ℕ → Step
step_behind_run bytes [] b = whole (atom bytes)
step_behind_run bytes (vs ∷ lists) b = step_between ((vs ++ atom bytes ∷ []) ∷ lists) b

-- a byte behind one of a run that is no `#`
abbrev pub step_run : State → ℕ → Step
step_run s b = if is_delimiter b then step_behind_run s.atom s.lists b else add_byte (run_mode b) b s

-- a byte behind a `#` of a run
abbrev pub step_hash : State → ℕ → Step
step_hash s b = if b == 59 || b == 124 then shown HashBar 1 else step_run s b

-- a byte between quotes
abbrev pub step_quoted : State → ℕ → Step
step_quoted s b = if b == 34 then ends_value (atom s.atom) s.lists else (if b == 92 then in_mode escaped s else add_byte quoted b s)

-- a byte behind the backslash of an escape
abbrev pub step_escaped : State → ℕ → Step
step_escaped s b =
    if nat_lt (letter_value b) 256 then add_byte quoted (letter_value b) s
    else (if b == 120 then in_mode hexadecimal0 s
    else (if nat_lt (digit_value b) 3 then in_mode (decimal1 (digit_value b)) s else shown BadEscape 1))

-- the next of three decimal digits, whose number so far is n: the third has to leave it below 256
abbrev pub step_decimal1 : ℕ → State → ℕ → Step
step_decimal1 n s b = if is_decimal b && nat_lt (n * 100 + digit_value b * 10) 256 then in_mode (decimal2 (n * 10 + digit_value b)) s else
    shown BadEscape 2

-- the third digit of an escape, behind two of this value
abbrev pub step_decimal2 : ℕ → State → ℕ → Step
step_decimal2 n s b = if is_decimal b && nat_lt (n * 10 + digit_value b) 256 then add_byte quoted (n * 10 + digit_value b) s else shown
    BadEscape 3

-- the first digit of a hexadecimal escape
abbrev pub step_hexadecimal0 : State → ℕ → Step
step_hexadecimal0 s b = if is_hexadecimal b then in_mode (hexadecimal1 (digit_value b)) s else shown BadEscape 2

-- the second digit of a hexadecimal escape, behind one of this value
abbrev pub step_hexadecimal1 : ℕ → State → ℕ → Step
step_hexadecimal1 n s b = if is_hexadecimal b then add_byte quoted (n * 16 + digit_value b) s else shown BadEscape 3

-- what a byte makes of an item in a mode
abbrev pub step_in : Mode → State → ℕ → Step
step_in between s b = step_between s.lists b
step_in commented s b = in_mode (if b == 10 then between else commented) s
step_in run s b = step_run s b
step_in hash s b = step_hash s b
step_in quoted s b = step_quoted s b
step_in escaped s b = step_escaped s b
step_in (decimal1 n) s b = step_decimal1 n s b
step_in (decimal2 n) s b = step_decimal2 n s b
step_in hexadecimal0 s b = step_hexadecimal0 s b
step_in (hexadecimal1 n) s b = step_hexadecimal1 n s b

-- what a byte makes of an item
abbrev pub step : State → ℕ → Step
step s b = step_in s.mode s b

-- the item so far is a run outside of lists
abbrev pub is_outer_run : Mode → List (List Value) → Bool
is_outer_run run [] = true
is_outer_run hash [] = true
is_outer_run mode lists = false

-- the byte behind an item's first bytes is none of the item: it ends a run outside of lists
abbrev pub is_behind : State → ℕ → Bool
is_behind s b = is_outer_run s.mode s.lists && is_delimiter b

-- an item whose first byte is at `from` and whose bytes so far, `n` of them, are s, at the end of the text
abbrev pub at_end : ℕ → State → Found
at_end from s = if is_outer_run s.mode s.lists then last_run s.atom from else unfinished from

-- the same with the bytes behind; an item has at most `limit` bytes
abbrev pub found_from : ℕ → ℕ → ℕ → State → List ℕ → Found
found_from limit from n s [] = at_end from s
found_from limit from n s (b ∷ rest) =
    if not (is_behind s b) && nat_le limit n then bad TooLong (from + n)
    else elim (step s b) [
      | on t ↦ found_from limit from (n + 1) t rest
      | whole v ↦ value v from (if is_behind s b then from + n else from + n + 1)
      | shown kind back ↦ bad kind (from + n - back)
    ]

-- no byte of an item was read
abbrev pub start : State
start = record { mode = between; atom = []; lists = [] }

-- what stands first in a text that begins at the offset `at`, and in one that begins inside a line that is passed over
abbrev mutual
  -- what stands first in a text that begins at an offset
  pub found : ℕ → ℕ → List ℕ → Found
  found limit at [] = nothing
  found limit at (b ∷ rest) =
      if is_blank b then found limit (at + 1) rest
      else (if b == 59 then found_behind_line limit (at + 1) rest
      else found_from limit at 0 start (b ∷ rest))

  -- the same in a text that begins inside a line that is passed over
  pub found_behind_line : ℕ → ℕ → List ℕ → Found
  found_behind_line limit at [] = nothing
  found_behind_line limit at (b ∷ rest) = if b == 10 then found limit (at + 1) rest else found_behind_line limit (at + 1) rest
