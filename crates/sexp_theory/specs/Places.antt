-- What stands first in a text: a value, a bad place, or no whole item yet. No word here knows pieces, a state or a stack.
use Rattle.std.specs.Prelude.{◌≡◌, ◌≢◌, ◌⊎◌, ℕ, zero, suc, ◌+◌, ◌<◌, ◌≤◌, List, [], ◌∷◌, ◌++◌, length, true, false}
use Rattle.std.specs.List.{AllPass}
use Rattle.sexp_theory.specs.Values.{Value, Values, nesting, nesting_of_all}
use Rattle.sexp_theory.specs.Signs.{is_plain}
use Rattle.sexp_theory.specs.Spelling.{IsGap, IsRun, IsByte, AreBytes, Ends, Spells, SpellAll, is_of_line}
use Rattle.sexp_theory.specs.declared.input.BadKind.{BadKind}
use Rattle.sexp_theory.specs.declared.input.BadKind.TheVariants.{StrayClose, BadEscape, TooDeep, TooLong, HashBar}

-- What a text can have first: blanks and comments alone; an item that isn't ended, from its first byte; a run outside of lists up to the
-- end of the text; a value, from its first byte to behind its last; a bad place, at its position.
pub data Found : Type 0 where
  nothing : Found
  unfinished : ℕ → Found
  last_run : List ℕ → ℕ → Found
  value : Value → ℕ → ℕ → Found
  bad : BadKind → ℕ → Found

-- lists inside one another, at the most
abbrev pub most_lists : ℕ
most_lists = 256

-- ---- an item that isn't ended

-- Behind the bytes, an item's first ones, so many lists are open, and no comment and no quote is: each of the lists has its `(` and then
-- whole values, blanks and comments. Where the last of them is a run, what comes behind the bytes says whether the run goes on.
abbrev pub IsOpen : ℕ → List ℕ → Type 0
IsOpen zero bytes = bytes ≡ []
IsOpen (suc n) bytes =
    (before inner : List ℕ) × (vs : Values) × (bytes ≡ before ++ 40 ∷ inner) × IsOpen n before × SpellAll inner vs
    × (nesting_of_all vs + suc n ≤ most_lists)

-- the bytes end in a run, from its first byte on
pub record IsInRun (lists : ℕ) (bytes before run : List ℕ) : Type 0 where
  pub spelled : bytes ≡ before ++ run
  pub opened : IsOpen lists before
  pub is_run : IsRun run
  pub whole_run : (front : List ℕ) (b : ℕ) → before ≡ front ++ b ∷ [] → is_plain b ≡ false

-- the bytes end in a comment, which no `#` stands before
pub record IsInComment (lists : ℕ) (bytes : List ℕ) : Type 0 where
  pub before : List ℕ
  pub words : List ℕ
  pub spelled : bytes ≡ before ++ 59 ∷ words
  pub opened : IsOpen lists before
  pub one_line : AllPass is_of_line words
  pub no_hash : (front : List ℕ) → before ≢ front ++ 35 ∷ []

-- the bytes end between quotes, behind bytes that stand for themselves and whole escapes
pub record IsInQuotes (lists : ℕ) (bytes before : List ℕ) : Type 0 where
  pub inner : List ℕ
  pub of : List ℕ
  pub spelled : bytes ≡ before ++ 34 ∷ inner
  pub opened : IsOpen lists before
  pub are_bytes : AreBytes inner of

-- an escape begins with the bytes, and goes on behind them
pub record BeginsEscape (bytes : List ℕ) : Type 0 where
  pub next : ℕ
  pub more : List ℕ
  pub of : ℕ
  pub first : (rest : List ℕ) × (bytes ≡ 92 ∷ rest)
  pub is_byte : IsByte (bytes ++ next ∷ more) of

-- the bytes end in an escape, which begins behind `quoted`
pub record IsInEscape (lists : ℕ) (bytes quoted escape : List ℕ) : Type 0 where
  pub before : List ℕ
  pub spelled : bytes ≡ quoted ++ escape
  pub in_quotes : IsInQuotes lists quoted before
  pub begun : BeginsEscape escape

-- the bytes are the first of an item that isn't ended: in a list, in a run, between quotes
pub data IsUnfinished (bytes : List ℕ) : Type 0 where
  in_list : (n : ℕ) → IsOpen (suc n) bytes → IsUnfinished bytes
  in_comment : (n : ℕ) → IsInComment (suc n) bytes → IsUnfinished bytes
  in_run : (n : ℕ) (before run : List ℕ) → IsInRun n bytes before run → IsUnfinished bytes
  in_quotes : (n : ℕ) (before : List ℕ) → IsInQuotes n bytes before → IsUnfinished bytes
  in_escape : (n : ℕ) (quoted escape : List ℕ) → IsInEscape n bytes quoted escape → IsUnfinished bytes

-- ---- bad places

-- The byte, behind the first bytes of an item, shows a bad place of this kind, whose position is so many bytes behind the item's first. No
-- byte before it showed one: those are the first bytes of an item. An item has at most `limit` bytes, and where its next byte would be one
-- more, that byte shows no other kind.
pub data Shows (limit : ℕ) (bytes : List ℕ) (b : ℕ) : BadKind → ℕ → Type 0 where
  -- a `)` outside of lists
  stray_close : bytes ≡ [] → b ≡ 41 → 0 < limit → Shows limit bytes b StrayClose 0
  -- the `(` of one list more
  too_deep : IsOpen most_lists bytes → b ≡ 40 → length bytes < limit → Shows limit bytes b TooDeep (length bytes)
  -- a bar, or in a list a `;`, behind a run whose last byte is a `#`: the position is the `#`
  hash_bar : (n : ℕ) (before run front : List ℕ) → IsInRun n bytes before run → bytes ≡ front ++ 35 ∷ [] → b ≡ 124
      → length bytes < limit → Shows limit bytes b HashBar (length front)
  hash_comment : (n : ℕ) (before run front : List ℕ) → IsInRun (suc n) bytes before run → bytes ≡ front ++ 35 ∷ [] → b ≡ 59
      → length bytes < limit → Shows limit bytes b HashBar (length front)
  -- the same `;` outside of lists, which is no byte of the item
  outer_hash_comment : (front : List ℕ) → IsRun bytes → bytes ≡ front ++ 35 ∷ [] → b ≡ 59 → length bytes ≤ limit
      → Shows limit bytes b HashBar (length front)
  -- the first byte with which no escape is possible any more: the position is the backslash
  bad_escape : (n : ℕ) (quoted escape : List ℕ) → IsInEscape n bytes quoted escape
      → (BeginsEscape (escape ++ b ∷ []) → ⊥) → ((of : ℕ) → IsByte (escape ++ b ∷ []) of → ⊥)
      → length bytes < limit → Shows limit bytes b BadEscape (length quoted)
  -- one byte more than the longest item has; a delimiter behind a run outside of lists is no byte of the item
  too_long : IsUnfinished bytes → (IsRun bytes → is_plain b ≡ true) → length bytes ≡ limit → Shows limit bytes b TooLong limit

-- ---- what stands first

-- Behind `gap`, the blanks and comments at the front of the text, which begins at the offset `at`, there is nothing, or a comment that
-- doesn't end; or the first bytes of an item; or a run up to the end of the text, which may go on; or a value; or the first bytes of an
-- item and a byte that shows a bad place.
abbrev pub IsFound : ℕ → ℕ → List ℕ → Found → Type 0
IsFound limit at text nothing = IsGap text ⊎ ((gap words : List ℕ) × (text ≡ gap ++ 59 ∷ words) × IsGap gap × AllPass is_of_line words)
IsFound limit at text (unfinished from) =
    (gap bytes : List ℕ) × (text ≡ gap ++ bytes) × IsGap gap × IsUnfinished bytes × (IsRun bytes → ⊥) × (length bytes ≤ limit)
    × (from ≡ at + length gap)
IsFound limit at text (last_run run from) =
    (gap : List ℕ) × (text ≡ gap ++ run) × IsGap gap × IsRun run × (length run ≤ limit) × (from ≡ at + length gap)
IsFound limit at text (value v from to) =
    (gap own rest : List ℕ) × (text ≡ gap ++ (own ++ rest)) × IsGap gap × Spells own v × (IsRun own → rest ≢ []) × Ends own rest
    × (nesting v ≤ most_lists) × (length own ≤ limit) × (from ≡ at + length gap) × (to ≡ from + length own)
IsFound limit at text (bad kind offset) =
    (gap bytes rest : List ℕ) × (b behind : ℕ) × (text ≡ gap ++ (bytes ++ b ∷ rest)) × IsGap gap
    × Shows limit bytes b kind behind × (offset ≡ at + length gap + behind)

-- the same in a text that begins inside a line that is passed over
abbrev pub IsFoundBehindLine : ℕ → ℕ → List ℕ → Found → Type 0
IsFoundBehindLine limit at text f =
    (AllPass is_of_line text × (f ≡ nothing)) ⊎ ((words rest : List ℕ) × (text ≡ words ++ 10 ∷ rest) × AllPass is_of_line words
    × IsFound limit (at + length words + 1) rest f)
