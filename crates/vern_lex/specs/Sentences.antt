-- Where the sentences of a text stand.
use Rattle.std.specs.Prelude.{◌≡◌, ◌⊎◌, ℕ, zero, suc, ◌+◌, ◌-◌, ◌<◌, ◌≤◌, ◌&&◌, ◌||◌, ◌==◌, List, [], ◌∷◌, length, drop, slice_index, Bool}
use Rattle.std.specs.Prelude.{true, false, not, nat_le, Option, Some, None, Result, Ok, Err, if◌then◌else◌}
use Rattle.std.specs.List.{prefix_len}
use Rattle.vern_lex.specs.Comments.{IsGap, is_blank, is_gap, opens_comment, outside, first_place, begins, part}
use Rattle.vern_lex.specs.declared.span.Span.{Span}
use Rattle.vern_lex.specs.declared.sentences.SentenceCut.{SentenceCut}
use Rattle.vern_lex.specs.declared.sentences.CutFault.{CutFault}
use Rattle.vern_lex.specs.declared.sentences.CutFault.TheVariants.{Unclosed, TooLong}

-- In this file a text is given by what stands outside of its comments.

-- `{` or `}`
abbrev pub is_brace : ℕ → Bool
is_brace b = b == 123 || b == 125

-- `-`, `+` or `*`
abbrev pub is_bullet : ℕ → Bool
is_bullet b = b == 45 || b == 43 || b == 42

-- a blank follows, or the end
abbrev pub is_blank_or_end : List ℕ → Bool
is_blank_or_end [] = true
is_blank_or_end (b ∷ rest) = is_blank b

-- a text begins with a full stop that ends a sentence, or with a comment that doesn't end
abbrev pub stops : List ℕ → Bool
stops [] = false
stops (b ∷ rest) = (b == 46 && is_blank_or_end rest) || opens_comment (b ∷ rest)

-- the length of the sentence at the front of a text, or its fault; the text begins at the offset `at`, `place` bytes before the first
-- full stop or comment that doesn't end
abbrev pub length_to_full_stop : ℕ → ℕ → List ℕ → Result ℕ CutFault
length_to_full_stop at place [] = Err (Unclosed at)
length_to_full_stop at place (b ∷ rest) = if b == 46 then Ok (place + 1) else Err (Unclosed (at + place))

-- a brace alone, a bullet, or to the first full stop; the text begins at the offset `at`
abbrev pub sentence_length : ℕ → List ℕ → Result ℕ CutFault
sentence_length at [] = Err (Unclosed at)
sentence_length at (b ∷ rest) =
    if is_brace b then Ok 1
    else (if is_bullet b then Ok (prefix_len (λ c. c == b) (b ∷ rest))
    else length_to_full_stop at (first_place stops (b ∷ rest)) (drop (first_place stops (b ∷ rest)) (b ∷ rest)))

-- the span of so many bytes from an offset, as far as a sentence may be that long
abbrev pub within_limit : ℕ → Result ℕ CutFault → Result Span CutFault
within_limit at (Ok n) = if nat_le n 65536 then Ok (record { from = at; to = at + n }) else Err (TooLong at)
within_limit at (Err fault) = Err fault

-- the sentence at the front of a text that begins at the offset `at`, with neither a blank nor a comment
abbrev pub sentence_at : ℕ → List ℕ → Option (Result Span CutFault)
sentence_at at [] = None
sentence_at at (b ∷ rest) = Some (if opens_comment (b ∷ rest) then Err (Unclosed at) else within_limit at (sentence_length at (b ∷ rest)))

-- the first sentence of a text that begins at the offset `at`, or its fault, or none where it has only blanks and comments
abbrev pub next_sentence : ℕ → List ℕ → Option (Result Span CutFault)
next_sentence at text = sentence_at (at + first_place begins text) (drop (first_place begins text) text)

-- no sentence more; the last one ends at the offset `at`
abbrev pub cut_up_to : ℕ → Option CutFault → SentenceCut
cut_up_to at fault = record { spans = []; rest = at; fault = fault }

-- one sentence before those of a cut
abbrev pub with_span : Span → SentenceCut → SentenceCut
with_span span cut = record { spans = span ∷ cut.spans; rest = cut.rest; fault = cut.fault }

-- the sentences of a text behind the offset `at`, where one ends or the text begins, one after the other to the first fault; at most so
-- many
abbrev pub sentences_behind : ℕ → List ℕ → ℕ → SentenceCut
sentences_behind zero text at = cut_up_to at None
sentences_behind (suc most) text at =
    elim (next_sentence at (drop at text)) [
      | None ↦ cut_up_to at None
      | Some found ↦ elim found [ Ok span ↦ with_span span (sentences_behind most text span.to) | Err fault ↦ cut_up_to at (Some fault) ]
    ]

-- the sentences of a text: each has a byte at least
abbrev pub sentences_of : List ℕ → SentenceCut
sentences_of text = sentences_behind (length text) (outside text) 0

-- ---- what spans of sentences and a fault are

-- a span of a text: it has 1 to 65,536 bytes and begins with neither a blank nor a comment
pub record IsSentenceSpan (text : List ℕ) (span : Span) : Type 0 where
  pub begun : begins (drop span.from (outside text)) ≡ true
  pub some : span.from < span.to
  pub short : span.to ≤ span.from + 65536
  pub within : span.to ≤ length text

-- outside of comments a full stop stands at this offset, and a blank or the end follows
pub record IsStop (text : List ℕ) (at : ℕ) : Type 0 where
  pub full_stop : slice_index (outside text) at ≡ 46
  pub followed : is_blank_or_end (drop (at + 1) (outside text)) ≡ true

-- the one byte of the span is a brace
pub record IsBraceSpan (text : List ℕ) (span : Span) : Type 0 where
  pub brace : is_brace (slice_index text span.from) ≡ true
  pub one : span.to ≡ span.from + 1

-- the bytes of the span are one byte of bullets over and over, and the byte behind it, if there is one, is another
pub record IsBulletSpan (text : List ℕ) (span : Span) : Type 0 where
  pub byte : ℕ
  pub bullet : is_bullet byte ≡ true
  pub each : (k : ℕ) → span.from ≤ k → k < span.to → slice_index text k ≡ byte
  pub longest : slice_index text span.to ≡ byte → ⊥

-- the span begins with no brace and no bullet, its last byte is a full stop that ends a sentence, and it is the first such; no comment that
-- doesn't end begins before
pub record IsSpanToFullStop (text : List ℕ) (span : Span) : Type 0 where
  pub no_brace : is_brace (slice_index text span.from) ≡ false
  pub no_bullet : is_bullet (slice_index text span.from) ≡ false
  pub last : IsStop text (span.to - 1)
  pub first : (k : ℕ) → span.from ≤ k → k + 1 < span.to → IsStop text k → ⊥
  pub closed : (k : ℕ) → span.from ≤ k → k < span.to → opens_comment (drop k (outside text)) ≡ false

-- A sentence is a brace, or the longest run of one byte of bullets, or it goes to the first full stop that ends one.
pub data IsWholeSentence (text : List ℕ) (span : Span) : Type 0 where
  brace : IsBraceSpan text span → IsWholeSentence text span
  bullet : IsBulletSpan text span → IsWholeSentence text span
  full_stop : IsSpanToFullStop text span → IsWholeSentence text span

-- each span begins where the one before it ends, or behind, and the first at the offset `at`, or behind
abbrev pub Rise : ℕ → List Span → Type 0
Rise at [] = Unit {0}
Rise at (span ∷ spans) = (at ≤ span.from) × Rise span.to spans

-- where the last of the spans ends, or `at` where there is none
abbrev pub last_end : ℕ → List Span → ℕ
last_end at [] = at
last_end at (span ∷ spans) = last_end span.to spans

-- only blanks and whole comments stand before each span, from the offset `at` or the end of the span before it on
abbrev pub HasGapsBefore : List ℕ → ℕ → List Span → Type 0
HasGapsBefore text at [] = Unit {0}
HasGapsBefore text at (span ∷ spans) = IsGap (part at span.from text) × HasGapsBefore text span.to spans

-- the bytes of a span, cut alone, are that one sentence
abbrev pub IsCutAlone : List ℕ → Span → Type 0
IsCutAlone text span =
    sentences_of (part span.from span.to text) ≡ record {
      spans = record { from = 0; to = span.to - span.from } ∷ [];
      rest =
          span.to - span.from;
      fault = None;
    }

-- the offset of a fault
abbrev pub place_of : CutFault → ℕ
place_of (Unclosed at) = at
place_of (TooLong at) = at

-- the text begins with a byte from which a sentence needs a full stop
abbrev pub needs_full_stop : List ℕ → Bool
needs_full_stop [] = false
needs_full_stop (b ∷ rest) = not (is_gap b || is_brace b || is_bullet b)

-- Unclosed: at its offset begins a comment that doesn't end, or else a sentence that needs a full stop, and neither one that ends a
-- sentence
-- nor such a comment stands from there to the text's end; TooLong: there begins a sentence of more than 65,536 bytes
abbrev pub IsFaultOf : List ℕ → CutFault → Type 0
IsFaultOf text (Unclosed at) = (opens_comment (drop at text) ≡ true)
    ⊎ ((needs_full_stop (drop at text) ≡ true) × (first_place stops (drop at text) ≡ length (drop at text)))
IsFaultOf text (TooLong at) = (begins (drop at text) ≡ true) × ((n : ℕ) × (sentence_length at (drop at text) ≡ Ok n) × (65536 < n))
