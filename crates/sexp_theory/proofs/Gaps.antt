-- The machine over blanks and comments.
use Rattle.std.proofs.Common.{◌≡◌, ◌⊎◌, inl, inr, ℕ, suc, ◌+◌, List, [], ◌∷◌, ◌++◌, length, true, refl, sym, ap, ◌∙◌, append_assoc}
use Rattle.std.proofs.Common.{append-nil, length-append, arith}
use Rattle.std.proofs.lemmas.Bool.{not-true}
use Rattle.std.proofs.lemmas.List.Elements.{All-head, All-tail}
use Rattle.std.specs.List.{AllPass}
use Rattle.sexp_theory.specs.Values.{Value}
use Rattle.sexp_theory.specs.Signs.{is_blank}
use Rattle.sexp_theory.specs.Spelling.{is_of_line, IsComment, IsGapOf, IsGap}
use Rattle.sexp_theory.specs.Places.{nothing}
use Rattle.sexp_theory.specs.Machine.{on, step, found, found_behind_line}
use Rattle.sexp_theory.proofs.Walks.{through, through_step, through_append}
use Rattle.sexp_theory.proofs.Steps.{standing, commenting, stands_blank}

-- ---- inside an item

word_through : (lists : List (List Value)) (b : ℕ) → is_of_line b ≡ true → step (commenting lists) b ≡ on (commenting lists)
word_through lists b e = rw (not-true _ e)

pub words_through : (words : List ℕ) (lists : List (List Value)) → AllPass is_of_line words
    → through (commenting lists) words ≡ on (commenting lists)
words_through [] lists p = refl
words_through (b ∷ words) lists p = through_step (commenting lists) (commenting lists) b words
    (word_through lists b (All-head (λ c. is_of_line c ≡ true) b words p))
    ∙ words_through words lists (All-tail (λ c. is_of_line c ≡ true) b words p)

pub comment_through : (bytes : List ℕ) (lists : List (List Value)) → IsComment bytes → through (standing lists) bytes ≡ on (standing lists)
comment_through bytes lists c = ap (through (standing lists)) c.spelled
    ∙ through_append (commenting lists) (commenting lists) c.words (10 ∷ []) (words_through c.words lists c.one_line)

piece_through : (piece : List ℕ) (lists : List (List Value)) → ((b : ℕ) × (piece ≡ b ∷ []) × (is_blank b ≡ true)) ⊎ IsComment piece
    → through (standing lists) piece ≡ on (standing lists)
piece_through piece lists (inl h) = ap (through (standing lists)) h.1
    ∙ through_step (standing lists) (standing lists) h.0 [] (stands_blank lists h.0 h.2)
piece_through piece lists (inr h) = comment_through piece lists h

pieces_through : (bytes : List ℕ) (pieces : List (List ℕ)) (lists : List (List Value)) → IsGapOf bytes pieces
    → through (standing lists) bytes ≡ on (standing lists)
pieces_through bytes [] lists h = ap (through (standing lists)) h
pieces_through bytes (piece ∷ pieces) lists h =
    ap (through (standing lists)) h.1 ∙ through_append (standing lists) (standing lists) piece h.0 (piece_through piece lists h.2)
    ∙ pieces_through h.0 pieces lists h.3

pub gap_through : (bytes : List ℕ) (lists : List (List Value)) → IsGap bytes → through (standing lists) bytes ≡ on (standing lists)
gap_through bytes lists h = pieces_through bytes h.0 lists h.1

-- ---- before an item

found_there : (limit at to : ℕ) (text : List ℕ) → at ≡ to → found limit at text ≡ found limit to text
found_there limit at to text e = ap (λ k. found limit k text) e

behind_there : (limit at to : ℕ) (text : List ℕ) → at ≡ to → found_behind_line limit at text ≡ found_behind_line limit to text
behind_there limit at to text e = ap (λ k. found_behind_line limit k text) e

pub found_blank : (limit at b : ℕ) (rest : List ℕ) → is_blank b ≡ true → found limit at (b ∷ rest) ≡ found limit (at + 1) rest
found_blank limit at b rest e = rw e

pub behind_word : (limit at b : ℕ) (rest : List ℕ) → is_of_line b ≡ true
    → found_behind_line limit at (b ∷ rest) ≡ found_behind_line limit (at + 1) rest
behind_word limit at b rest e = rw (not-true _ e)

behind_words : (limit at : ℕ) (words rest : List ℕ) → AllPass is_of_line words
    → found_behind_line limit at (words ++ rest) ≡ found_behind_line limit (at + length words) rest
behind_words limit at [] rest p = behind_there limit at (at + 0) rest (omega arith)
behind_words limit at (b ∷ words) rest p =
    behind_word limit at b (words ++ rest) (All-head (λ c. is_of_line c ≡ true) b words p)
    ∙ behind_words limit (at + 1) words rest (All-tail (λ c. is_of_line c ≡ true) b words p)
    ∙ behind_there limit (at + 1 + length words) (at + suc (length words)) rest (omega arith)

-- a line that goes on to the end of the text
pub behind_open_line : (limit at : ℕ) (words : List ℕ) → AllPass is_of_line words → found_behind_line limit at words ≡ nothing
behind_open_line limit at words p = ap (found_behind_line limit at) (sym (append-nil words)) ∙ behind_words limit at words [] p

-- a line that ends
pub behind_whole_line : (limit at : ℕ) (words rest : List ℕ) → AllPass is_of_line words
    → found_behind_line limit at (words ++ 10 ∷ rest) ≡ found limit (at + length words + 1) rest
behind_whole_line limit at words rest p = behind_words limit at words (10 ∷ rest) p

found_comment : (limit at : ℕ) (bytes rest : List ℕ) → IsComment bytes
    → found limit at (bytes ++ rest) ≡ found limit (at + length bytes) rest
found_comment limit at bytes rest c =
    ap (λ xs. found limit at (xs ++ rest)) c.spelled
    ∙ ap (found_behind_line limit (at + 1)) (append_assoc c.words (10 ∷ []) rest)
    ∙ behind_whole_line limit (at + 1) c.words rest c.one_line
    ∙ found_there limit (at + 1 + length c.words + 1) (at + length bytes) rest
    (omega (arith, ap length c.spelled, length-append c.words (10 ∷ [])))

found_piece : (limit at : ℕ) (piece rest : List ℕ) → ((b : ℕ) × (piece ≡ b ∷ []) × (is_blank b ≡ true)) ⊎ IsComment piece
    → found limit at (piece ++ rest) ≡ found limit (at + length piece) rest
found_piece limit at piece rest (inl h) =
    ap (λ xs. found limit at (xs ++ rest)) h.1 ∙ found_blank limit at h.0 rest h.2
    ∙ found_there limit (at + 1) (at + length piece) rest (omega (arith, ap length h.1))
found_piece limit at piece rest (inr h) = found_comment limit at piece rest h

found_pieces : (limit at : ℕ) (bytes : List ℕ) (pieces : List (List ℕ)) (rest : List ℕ) → IsGapOf bytes pieces
    → found limit at (bytes ++ rest) ≡ found limit (at + length bytes) rest
found_pieces limit at bytes [] rest h = ap (λ xs. found limit at (xs ++ rest)) h
    ∙ found_there limit at (at + length bytes) rest (omega (arith, ap length h))
found_pieces limit at bytes (piece ∷ pieces) rest h =
    ap (λ xs. found limit at (xs ++ rest)) h.1 ∙ ap (found limit at) (append_assoc piece h.0 rest)
    ∙ found_piece limit at piece (h.0 ++ rest) h.2 ∙ found_pieces limit (at + length piece) h.0 pieces rest h.3
    ∙ found_there limit (at + length piece + length h.0) (at + length bytes) rest (omega (arith, ap length h.1, length-append piece h.0))

-- blanks and comments are passed over
pub found_gap : (limit at : ℕ) (gap rest : List ℕ) → IsGap gap → found limit at (gap ++ rest) ≡ found limit (at + length gap) rest
found_gap limit at gap rest h = found_pieces limit at gap h.0 rest h.1

-- a comment that doesn't end
pub found_open_comment : (limit at : ℕ) (words : List ℕ) → AllPass is_of_line words → found limit at (59 ∷ words) ≡ nothing
found_open_comment limit at words p = behind_open_line limit (at + 1) words p
