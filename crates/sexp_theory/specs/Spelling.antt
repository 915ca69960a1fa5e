-- Which bytes spell a value.
use Rattle.std.specs.Prelude.{◌≡◌, ◌≢◌, ◌⊎◌, ◌==◌, ℕ, ◌+◌, ◌*◌, ◌<◌, List, [], ◌∷◌, ◌++◌, length, Bool, true, false, not}
use Rattle.std.specs.List.{AllPass}
use Rattle.std.specs.Char.{digit_value}
use Rattle.sexp_theory.specs.Values.{Value, atom, list, Values, nil, cons}
use Rattle.sexp_theory.specs.Signs.{is_blank, is_plain, letter_value}

-- ---- what stands between values

-- a byte that doesn't end a line
abbrev pub is_of_line : ℕ → Bool
is_of_line b = not (b == 10)

-- `;` and all up to and with the byte 10 that ends its line
pub record IsComment (bytes : List ℕ) : Type 0 where
  pub words : List ℕ
  pub spelled : bytes ≡ 59 ∷ (words ++ 10 ∷ [])
  pub one_line : AllPass is_of_line words

-- blanks and whole comments, a piece each
abbrev pub IsGapOf : List ℕ → List (List ℕ) → Type 0
IsGapOf bytes [] = bytes ≡ []
IsGapOf bytes (piece ∷ pieces) =
    ((rest : List ℕ) × (bytes ≡ piece ++ rest) × (((b : ℕ) × (piece ≡ b ∷ []) × (is_blank b ≡ true)) ⊎ IsComment piece)
    × IsGapOf rest pieces)

-- blanks and whole comments, or nothing
abbrev pub IsGap : List ℕ → Type 0
IsGap bytes = (pieces : List (List ℕ)) × IsGapOf bytes pieces

-- ---- atoms

-- no `#` is followed by a bar
abbrev pub HasNoHashBar : List ℕ → Type 0
HasNoHashBar bytes = (before after : List ℕ) → bytes ≢ before ++ 35 ∷ 124 ∷ after

-- the bytes of an atom without quotes: one or more, none a delimiter, no `#` followed by a bar
pub record IsRun (bytes : List ℕ) : Type 0 where
  pub some : 0 < length bytes
  pub plain : AllPass is_plain bytes
  pub no_hash_bar : HasNoHashBar bytes

-- between quotes the bytes stand for the byte: itself, or by an escape with a letter, with three decimal digits, with two hexadecimal ones
pub data IsByte (bytes : List ℕ) (b : ℕ) : Type 0 where
  itself : bytes ≡ b ∷ [] → b ≢ 34 → b ≢ 92 → IsByte bytes b
  letter : (l : ℕ) → bytes ≡ 92 ∷ l ∷ [] → b ≡ letter_value l → b < 256 → IsByte bytes b
  decimal : (x y z : ℕ) → bytes ≡ 92 ∷ x ∷ y ∷ z ∷ [] → digit_value x < 10 → digit_value y < 10 → digit_value z < 10
      → b ≡ digit_value x * 100 + digit_value y * 10 + digit_value z → b < 256 → IsByte bytes b
  hexadecimal : (x y : ℕ) → bytes ≡ 92 ∷ 120 ∷ x ∷ y ∷ [] → digit_value x < 16 → digit_value y < 16
      → b ≡ digit_value x * 16 + digit_value y → IsByte bytes b

-- between quotes the bytes stand for these
abbrev pub AreBytes : List ℕ → List ℕ → Type 0
AreBytes bytes [] = bytes ≡ []
AreBytes bytes (b ∷ bs) = (one rest : List ℕ) × (bytes ≡ one ++ rest) × IsByte one b × AreBytes rest bs

-- ---- values

-- a run goes as far as it can: what is behind it begins with a delimiter, or there is nothing, and no `#` is followed by `;`
abbrev pub Parts : List ℕ → List ℕ → Type 0
Parts run [] = Unit {0}
Parts run (b ∷ rest) = (is_plain b ≡ false) × ((before : List ℕ) → run ≡ before ++ 35 ∷ [] → b ≢ 59)

-- an atom in quotes, and a list, end by themselves; a run is parted from what is behind it
abbrev pub Ends : List ℕ → List ℕ → Type 0
Ends own rest = IsRun own → Parts own rest

abbrev mutual
  -- the bytes spell the value
  pub Spells : List ℕ → Value → Type 0
  Spells bytes (atom of) = (IsRun bytes × (bytes ≡ of)) ⊎ ((inner : List ℕ) × (bytes ≡ 34 ∷ (inner ++ 34 ∷ [])) × AreBytes inner of)
  Spells bytes (list vs) = (inner : List ℕ) × (bytes ≡ 40 ∷ (inner ++ 41 ∷ [])) × SpellAll inner vs

  -- the bytes spell the values, with blanks and comments before, between and behind them
  pub SpellAll : List ℕ → Values → Type 0
  SpellAll bytes nil = IsGap bytes
  SpellAll bytes (cons v vs) =
      (gap own rest : List ℕ) × (bytes ≡ gap ++ (own ++ rest)) × IsGap gap × Spells own v × Ends own rest × SpellAll rest vs
