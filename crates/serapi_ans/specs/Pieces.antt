-- What is put of a list before its values.
use Rattle.std.specs.Prelude.{ℕ, List, [], ◌∷◌, ◌++◌, codes, Option, Some, None}
use Rattle.sexp_theory.specs.Writing.{text, atom_text}
use Rattle.serapi_ans.specs.Lines.{number, pair, string_value}

-- `(`, the word, and a blank
abbrev pub opened : List ℕ → List ℕ
opened word = 40 ∷ (atom_text word ++ 32 ∷ [])

-- the front of what answers the command with a tag
abbrev pub answer_head : List ℕ → List ℕ
answer_head tag = codes "(Answer " ++ (atom_text tag ++ 32 ∷ [])

-- what ends it
abbrev pub answer_end : List ℕ
answer_end = 41 ∷ 10 ∷ []

-- the tip behind the offsets, with the blank that stands before a word
abbrev pub tip_text : Option ℕ → List ℕ
tip_text None = codes " NewTip"
tip_text (Some tip) = text (pair (codes "Unfocus") (number tip))

-- numbers, each with a blank before it
abbrev pub numbers_behind : List ℕ → List ℕ
numbers_behind [] = []
numbers_behind (n ∷ ns) = 32 ∷ (text (number n) ++ numbers_behind ns)

-- the strings of a Query, one behind the other: nothing stands between two lists
abbrev pub string_texts : List (List ℕ) → List ℕ
string_texts [] = []
string_texts (t ∷ ts) = text (string_value t) ++ string_texts ts
