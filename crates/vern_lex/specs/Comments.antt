-- Blanks and comments of a text, and what stands outside of its comments.
use Rattle.std.specs.Prelude.{◌≡◌, ℕ, zero, suc, ◌+◌, ◌-◌, ◌<◌, ◌&&◌, ◌||◌, ◌==◌, List, [], ◌∷◌, ◌++◌, length, take, drop, Bool, true}
use Rattle.std.specs.Prelude.{false, not, Option, Some, None, if◌then◌else◌}

-- tab, line feed, form feed, carriage return and space
abbrev pub is_blank : ℕ → Bool
is_blank b = b == 9 || b == 10 || b == 12 || b == 13 || b == 32

-- the text begins with `(*`
abbrev pub opens_comment : List ℕ → Bool
opens_comment [] = false
opens_comment (a ∷ []) = false
opens_comment (a ∷ b ∷ rest) = a == 40 && b == 42

-- the text begins with `*)`
abbrev pub closes_comment : List ℕ → Bool
closes_comment [] = false
closes_comment (a ∷ []) = false
closes_comment (a ∷ b ∷ rest) = a == 42 && b == 41

-- what stands behind the comments that are open where a text begins, so many inside one another: each `(*` opens one more, each `*)`
-- closes the innermost, and no byte is of two such pairs
abbrev pub behind : ℕ → List ℕ → Option (List ℕ)
behind zero text = Some text
behind (suc deep) [] = None
behind (suc deep) (a ∷ []) = None
behind (suc deep) (a ∷ b ∷ rest) =
    elim (a == 40 && b == 42) [
      | true ↦ behind (suc (suc deep)) rest
      | false ↦ elim (a == 42 && b == 41) [ true ↦ behind deep rest | false ↦ behind (suc deep) (b ∷ rest) ]
    ]

-- how many bytes the comment has that a text begins with; 0 where it begins with none, or with one that doesn't end
abbrev pub comment_length : List ℕ → ℕ
comment_length [] = 0
comment_length (a ∷ []) = 0
comment_length (a ∷ b ∷ rest) = if a == 40 && b == 42 then elim (behind 1 rest)
    [ None ↦ 0 | Some after ↦ length (a ∷ b ∷ rest) - length after ] else 0

-- what stands in the place of a byte of a comment: 256, which is no byte
abbrev pub no_byte : ℕ
no_byte = 256

-- a text whose first bytes, so many, are of a comment
abbrev pub outside_from : ℕ → List ℕ → List ℕ
outside_from of_comment [] = []
outside_from zero (b ∷ rest) = (if comment_length (b ∷ rest) == 0 then b else no_byte) ∷ outside_from (comment_length (b ∷ rest) - 1) rest
outside_from (suc more) (b ∷ rest) = no_byte ∷ outside_from more rest

-- a text with `no_byte` in the place of each byte of a comment that ends, so that a `(*` that is left begins one that doesn't
abbrev pub outside : List ℕ → List ℕ
outside text = outside_from 0 text

-- a blank, or of a comment
abbrev pub is_gap : ℕ → Bool
is_gap b = is_blank b || b == no_byte

-- how far the first place is from which on a test passes, or the end
abbrev pub first_place : (List ℕ → Bool) → List ℕ → ℕ
first_place test [] = 0
first_place test (b ∷ rest) = if test (b ∷ rest) then 0 else 1 + first_place test rest

-- the text begins with neither a blank nor a comment
abbrev pub begins : List ℕ → Bool
begins [] = false
begins (b ∷ rest) = not (is_gap b)

-- ---- parts of a text

-- the bytes of a text from one offset on and before another
abbrev pub part : ℕ → ℕ → List ℕ → List ℕ
part from to text = take (to - from) (drop from text)

-- one whole comment and nothing behind it
abbrev pub IsComment : List ℕ → Type 0
IsComment text = (0 < comment_length text) × (comment_length text ≡ length text)

-- blanks and whole comments alone, as many as there are
pub data IsGap : List ℕ → Type 0 where
  nothing : IsGap []
  blank : (b : ℕ) (rest : List ℕ) → is_blank b ≡ true → IsGap rest → IsGap (b ∷ rest)
  comment : (first rest : List ℕ) → IsComment first → IsGap rest → IsGap (first ++ rest)
