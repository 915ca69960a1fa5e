-- The items of a text in the words of the format: each stands first in what is unread, and reading goes on behind it.
use Rattle.std.specs.Prelude.{◌≡◌, ◌⊎◌, ℕ, ◌+◌, ◌-◌, List, [], ◌∷◌, ◌++◌, length, drop, Bool, true, false}
use Rattle.std.specs.List.{AllPass}
use Rattle.sexp_theory.specs.Values.{Value, atom}
use Rattle.sexp_theory.specs.Spelling.{is_of_line}
use Rattle.sexp_theory.specs.Places.{Found, nothing, unfinished, last_run, value, bad, IsFound, IsFoundBehindLine}
use Rattle.sexp_theory.specs.Items.{Item, value_item, bad_item, Unread, from_offset}
use Rattle.sexp_theory.specs.declared.input.InputEnd.{InputEnd}
use Rattle.sexp_theory.specs.declared.input.InputEnd.TheVariants.{Clean, Truncated}

-- what stands first in a text, which begins inside a line that is passed over or doesn't
abbrev pub IsFirstOf : Bool → ℕ → ℕ → List ℕ → Found → Type 0
IsFirstOf true limit at text f = IsFoundBehindLine limit at text f
IsFirstOf false limit at text f = IsFound limit at text f

-- what stands first in what is unread
abbrev pub IsFirst : ℕ → Unread → Found → Type 0
IsFirst limit u f = IsFirstOf u.skipping limit u.at u.bytes f

-- Reading goes on behind the first byte 10 at or after the offset, from which on these are the bytes; where there is none yet, inside
-- that line.
abbrev pub IsBehindLine : ℕ → List ℕ → Unread → Type 0
IsBehindLine offset bytes rest =
    (AllPass is_of_line bytes × (rest ≡ record { bytes = []; at = offset + length bytes; skipping = true }))
    ⊎ ((line more : List ℕ) × (bytes ≡ line ++ 10 ∷ more) × AllPass is_of_line line
    × (rest ≡ record { bytes = more; at = offset + length line + 1; skipping = false }))

-- a value stands first; if the text is the whole input (ended), a run up to its end is one too
abbrev pub IsFirstValue : ℕ → Bool → Unread → Value → ℕ → ℕ → Type 0
IsFirstValue limit ended u v from to =
    IsFirst limit u (value v from to)
    ⊎ ((run : List ℕ) × IsFirst limit u (last_run run from) × (v ≡ atom run) × (to ≡ u.at + length u.bytes) × (ended ≡ true))

-- the item is the first one, and `rest` is what is unread behind it
abbrev pub IsItem : ℕ → Bool → Unread → Item → Unread → Type 0
IsItem limit ended u (value_item v from to) rest = IsFirstValue limit ended u v from to × (rest ≡ from_offset to u)
IsItem limit ended u (bad_item offset kind) rest = IsFirst limit u (bad kind offset)
    × IsBehindLine offset (drop (offset - u.at) u.bytes) rest

-- there is no whole item: blanks and comments alone, an item that isn't ended, or a run that may go on
abbrev pub HasNoItem : ℕ → Bool → Unread → Type 0
HasNoItem limit ended u =
    IsFirst limit u nothing
    ⊎ (((from : ℕ) × IsFirst limit u (unfinished from))
    ⊎ ((run : List ℕ) × (from : ℕ) × IsFirst limit u (last_run run from) × (ended ≡ false)))

-- these are the whole items, in order
abbrev pub AreItems : ℕ → Bool → Unread → List Item → Type 0
AreItems limit ended u [] = HasNoItem limit ended u
AreItems limit ended u (item ∷ items) = (rest : Unread) × IsItem limit ended u item rest × AreItems limit ended rest items

-- how the input ends that has no whole item any more: inside of an item, or outside
abbrev pub IsEnd : ℕ → Unread → InputEnd → Type 0
IsEnd limit u Clean = IsFirst limit u nothing
IsEnd limit u (Truncated from) = IsFirst limit u (unfinished from)

-- the whole input has these items, and ends so behind them
abbrev pub EndsAs : ℕ → Unread → List Item → InputEnd → Type 0
EndsAs limit u [] end = IsEnd limit u end
EndsAs limit u (item ∷ items) end = (rest : Unread) × IsItem limit true u item rest × EndsAs limit rest items end

-- these are the first items, whatever comes behind the text, and `rest` is what is unread behind them
abbrev pub IsRead : ℕ → Unread → List Item → Unread → Type 0
IsRead limit u [] rest = rest ≡ u
IsRead limit u (item ∷ items) rest = (next : Unread) × IsItem limit false u item next × IsRead limit next items rest
