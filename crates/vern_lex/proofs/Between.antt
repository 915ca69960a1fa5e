-- What stands before the sentences of a text, and what is left behind them.
use Rattle.std.proofs.Common.{◌≡◌, ℕ, zero, suc, ◌+◌, ◌-◌, ◌<◌, ◌≤◌, List, [], ◌∷◌, length, drop, Option, Some, None, Result, Ok, Err}
use Rattle.std.proofs.Common.{length-drop, refl, sym, ap, ◌∙◌, subst, arith}
use Rattle.std.specs.List.{All}
use Rattle.std.proofs.lemmas.List.{drop_all}
use Rattle.std.proofs.lemmas.List.Elements.{All-drop}
use Rattle.vern_lex.specs.Comments.{IsGap, outside, first_place, begins}
use Rattle.vern_lex.specs.Comments.IsGap.{nothing}
use Rattle.vern_lex.specs.Sentences.{HasGapsBefore, sentence_at, next_sentence, sentences_behind, sentences_of}
use Rattle.vern_lex.specs.declared.span.Span.{Span}
use Rattle.vern_lex.specs.declared.sentences.CutFault.{CutFault}
use Rattle.vern_lex.proofs.Outsides.{length-outside}
use Rattle.vern_lex.proofs.Gaps.{gap-whole, gap-before}
use Rattle.vern_lex.proofs.Cutting.{next_span, at_from, span_rest, within_since, step}

from_is : (text : List ℕ) (at : ℕ) (s : Span) → drop at (outside text) ≡ outside (drop at text)
    → next_sentence at (drop at (outside text)) ≡ Some (Ok s) → s.from ≡ at + first_place begins (outside (drop at text))
from_is text at s r e =
    (at_from (at + first_place begins (drop at (outside text)))
    (drop (first_place begins (drop at (outside text))) (drop at (outside text))) s e).0 ∙ ap (λ xs. at + first_place begins xs) r

before : (most : ℕ) (text : List ℕ) (at : ℕ) → All (λ b. b < 256) text → drop at (outside text) ≡ outside (drop at text)
    → HasGapsBefore text at (sentences_behind most (outside text) at).spans
before zero text at bytes r = tt
before (suc most) text at bytes r = by (next_sentence at (drop at (outside text))) refl (before most text)
  where
    by : (o : Option (Result Span CutFault)) → next_sentence at (drop at (outside text)) ≡ o
        → ((p : ℕ) → All (λ b. b < 256) text → drop p (outside text) ≡ outside (drop p text)
        → HasGapsBefore text p (sentences_behind most (outside text) p).spans)
        → HasGapsBefore text at (step most (outside text) at o).spans
    by None e more = tt
    by (Some (Err f)) e more = tt
    by (Some (Ok s)) e more =
        let below = within_since (outside text) at (Ok s) e in (
          gap-before text at s.from bytes (from_is text at s r e),
          more s.to bytes (span_rest text at s (omega (arith, below, length-outside text)) e),
        )

sentence_none : (at : ℕ) (xs : List ℕ) → sentence_at at xs ≡ None → xs ≡ []
sentence_none at [] e = refl
sentence_none at (b ∷ rest) e = absurd (cc)

nothing_left : (text : List ℕ) (at : ℕ) → All (λ b. b < 256) text → drop at (outside text) ≡ outside (drop at text)
    → next_sentence at (drop at (outside text)) ≡ None → IsGap (drop at text)
nothing_left text at bytes r e =
    gap-whole (drop at text) (All-drop (λ b. b < 256) at text bytes)
    (drop_all (first_place begins (outside (drop at text))) (drop at text)
    (omega (
      arith,
      count,
      length-drop (first_place begins (outside (drop at text))) (outside (drop at text)),
      length-outside (drop at text),
    )))
  where
    none : drop (first_place begins (drop at (outside text))) (drop at (outside text)) ≡ []
    none = sentence_none (at + first_place begins (drop at (outside text)))
        (drop (first_place begins (drop at (outside text))) (drop at (outside text))) e

    count : length (drop (first_place begins (outside (drop at text))) (outside (drop at text))) ≡ 0
    count = ap length (sym (ap (λ xs. drop (first_place begins xs) xs) r) ∙ none)

left : (most : ℕ) (text : List ℕ) (at : ℕ) → length text - at ≤ most → All (λ b. b < 256) text
    → drop at (outside text) ≡ outside (drop at text)
    → (sentences_behind most (outside text) at).fault ≡ None → IsGap (drop (sentences_behind most (outside text) at).rest text)
left zero text at h bytes r e = let past : length text ≤ at = omega (arith, h) in subst IsGap (sym (drop_all at text past)) nothing
left (suc most) text at h bytes r e = by (next_sentence at (drop at (outside text))) refl (left most text) e
  where
    by : (o : Option (Result Span CutFault)) → next_sentence at (drop at (outside text)) ≡ o
        → ((p : ℕ) → length text - p ≤ most → All (λ b. b < 256) text → drop p (outside text) ≡ outside (drop p text)
        → (sentences_behind most (outside text) p).fault ≡ None → IsGap (drop (sentences_behind most (outside text) p).rest text))
        → (step most (outside text) at o).fault ≡ None → IsGap (drop (step most (outside text) at o).rest text)
    by None o more e = nothing_left text at bytes r o
    by (Some (Err f)) o more e = absurd (cc)
    by (Some (Ok s)) o more e =
        let below = within_since (outside text) at (Ok s) o in
        let i = next_span at (drop at (outside text)) s o in
        more s.to (omega (arith, i.behind, i.some, h)) bytes (span_rest text at s (omega (arith, below, length-outside text)) o) e

pub spans_between : (text : List ℕ) → All (λ b. b < 256) text → HasGapsBefore text 0 (sentences_of text).spans
spans_between text bytes = before (length text) text 0 bytes refl

pub spans_left : (text : List ℕ) → All (λ b. b < 256) text → (sentences_of text).fault ≡ None → IsGap (drop (sentences_of text).rest text)
spans_left text bytes = left (length text) text 0 (omega arith) bytes refl
