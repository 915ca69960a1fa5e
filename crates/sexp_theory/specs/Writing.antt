-- The text that a value is written as.
use Rattle.std.specs.Prelude.{ℕ, ◌+◌, ◌&&◌, ◌||◌, ◌==◌, List, [], ◌∷◌, ◌++◌, ◌/◌, ◌%◌, Bool, false, not, nat_le, if◌then◌else◌}
use Rattle.std.specs.List.{list_all}
use Rattle.sexp_theory.specs.Values.{Value, atom, list, Values, nil, cons}

-- a byte that an atom without quotes may be written with: from 33 to 126, and none of `"` `#` `(` `)` `;` `\` `|`
abbrev pub is_bare : ℕ → Bool
is_bare b = nat_le 33 b && nat_le b 126 && not (b == 34 || b == 35 || b == 40 || b == 41 || b == 59 || b == 92 || b == 124)

-- an atom that is written without quotes
abbrev pub is_bare_atom : List ℕ → Bool
is_bare_atom [] = false
is_bare_atom (b ∷ bs) = list_all is_bare (b ∷ bs)

-- `\` and the three decimal digits of a byte
abbrev pub decimal_escape : ℕ → List ℕ
decimal_escape b = 92 ∷ (48 + b / 100) ∷ (48 + b / 10 % 10) ∷ (48 + b % 10) ∷ []

-- a byte that is written between quotes as itself: from 32 to 126, and neither a quote nor a backslash
abbrev pub is_itself : ℕ → Bool
is_itself b = nat_le 32 b && nat_le b 126 && not (b == 34 || b == 92)

-- how a byte is written between quotes
abbrev pub quoted_byte : ℕ → List ℕ
quoted_byte b =
    if is_itself b then b ∷ []
    else (if b == 10 then 92 ∷ 110 ∷ []
    else (if b == 9 then 92 ∷ 116 ∷ []
    else (if b == 13 then 92 ∷ 114 ∷ []
    else (if b == 8 then 92 ∷ 98 ∷ []
    else (if b == 34 || b == 92 then 92 ∷ b ∷ []
    else decimal_escape b)))))

-- how bytes are written between quotes
abbrev pub quoted_bytes : List ℕ → List ℕ
quoted_bytes [] = []
quoted_bytes (b ∷ bs) = quoted_byte b ++ quoted_bytes bs

-- how an atom is written: without quotes where it may be
abbrev pub atom_text : List ℕ → List ℕ
atom_text bytes = if is_bare_atom bytes then bytes else 34 ∷ (quoted_bytes bytes ++ 34 ∷ [])

-- what stands between two values of a list: nothing between two lists, else a space
abbrev pub between : Value → Value → List ℕ
between (list vs) (list ws) = []
between v w = 32 ∷ []

abbrev mutual
  -- the text of a value
  pub text : Value → List ℕ
  text (atom bytes) = atom_text bytes
  text (list vs) = 40 ∷ (texts vs ++ 41 ∷ [])

  -- the values of a list with what stands between them
  pub texts : Values → List ℕ
  texts nil = []
  texts (cons v vs) = text v ++ texts_behind v vs

  -- the values behind one of a list, each with what stands before it
  pub texts_behind : Value → Values → List ℕ
  texts_behind before nil = []
  texts_behind before (cons v vs) = between before v ++ (text v ++ texts_behind v vs)

-- ---- what a text has

-- a byte that a text may have: a space, a letter, a digit or a sign of ASCII
abbrev pub is_of_text : ℕ → Bool
is_of_text b = nat_le 32 b && nat_le b 126
