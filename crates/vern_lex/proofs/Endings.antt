-- How the sentences of a text end.
use Rattle.std.proofs.Common.{◌≡◌, ℕ, zero, suc, ◌+◌, ◌-◌, ◌<◌, ◌≤◌, ◌⊎◌, inl, inr, ◌&&◌, ◌||◌, ◌==◌, List, [], ◌∷◌, length, drop, get_or}
use Rattle.std.proofs.Common.{nat_le, Bool, true, false, Option, Some, None, Result, Ok, Err, if◌then◌else◌, length-drop, get_or-drop, refl}
use Rattle.std.proofs.Common.{sym, ap, ◌∙◌, arith}
use Rattle.std.specs.List.{All, prefix_len}
use Rattle.std.proofs.lemmas.Bool.{false≢true, cases_lt, eqb-true, eq-eqb, or_parts}
use Rattle.std.proofs.lemmas.List.{drop_more, drop-drop, get_or_past}
use Rattle.std.proofs.lemmas.List.Sums.{prefix_len_passes, prefix_len_stops}
use Rattle.std.proofs.lemmas.List.Elements.{All-nil, All-cons}
use Rattle.vern_lex.specs.Comments.{outside, first_place, begins, opens_comment, is_blank}
use Rattle.vern_lex.specs.Sentences.{IsStop, IsBulletSpan, IsSpanToFullStop, IsWholeSentence, is_brace, is_bullet}
use Rattle.vern_lex.specs.Sentences.{is_blank_or_end, stops, length_to_full_stop, sentence_length, within_limit, sentence_at, next_sentence}
use Rattle.vern_lex.specs.Sentences.{sentences_behind, sentences_of}
use Rattle.vern_lex.specs.Sentences.IsWholeSentence.{brace as as_brace, bullet as as_bullet, full_stop as as_full_stop}
use Rattle.vern_lex.specs.declared.span.Span.{Span}
use Rattle.vern_lex.specs.declared.sentences.CutFault.{CutFault}
use Rattle.vern_lex.specs.declared.sentences.CutFault.TheVariants.{Unclosed, TooLong}
use Rattle.vern_lex.proofs.Outsides.{IsPlain, plain_place, plain_byte, length-outside, first_place-found}
use Rattle.vern_lex.proofs.Outsides.{prefix_len-outside}
use Rattle.vern_lex.proofs.Cutting.{step, next_span, within_since, span_begun}
use Rattle.vern_lex.proofs.Cuts.{no_bullet}

-- ---- tests

-- before the first place where a test passes it doesn't
first_place-before : (test : List ℕ → Bool) (xs : List ℕ) (k : ℕ) → k < first_place test xs → test (drop k xs) ≡ false
first_place-before test [] k h = absurd (omega (arith, h))
first_place-before test (x ∷ xs) k h = by (test (x ∷ xs)) refl k h (first_place-before test xs)
  where
    by : (t : Bool) → test (x ∷ xs) ≡ t → (k : ℕ) → k < (if t then 0 else 1 + first_place test xs)
        → ((j : ℕ) → j < first_place test xs → test (drop j xs) ≡ false) → test (drop k (x ∷ xs)) ≡ false
    by true e k h more = absurd (omega (arith, h))
    by false e zero h more = e
    by false e (suc j) h more = more j (omega (arith, h))

no_stop_opens : (xs : List ℕ) → stops xs ≡ false → opens_comment xs ≡ false
no_stop_opens [] e = refl
no_stop_opens (b ∷ rest) e = (or_parts (b == 46 && is_blank_or_end rest) (opens_comment (b ∷ rest)) e).1

stop_opens : (rest : List ℕ) → opens_comment (46 ∷ rest) ≡ false
stop_opens [] = refl
stop_opens (b ∷ rest) = refl

stop_followed : (rest : List ℕ) → stops (46 ∷ rest) ≡ true → is_blank_or_end rest ≡ true
stop_followed [] e = refl
stop_followed (b ∷ rest) e = by (is_blank b) e
  where
    by : (t : Bool) → (t || false) ≡ true → t ≡ true
    by true e = refl
    by false e = cc

followed_stops : (rest : List ℕ) → is_blank_or_end rest ≡ true → stops (46 ∷ rest) ≡ true
followed_stops rest e = ap (λ t. t || opens_comment (46 ∷ rest)) e

-- ---- the length of a span's sentence

-- the sentence of a span has the span's length
pub record IsMeasured (xs : List ℕ) (s : Span) : Type 0 where
  pub long : sentence_length s.from (drop s.from xs) ≡ Ok (s.to - s.from)
  pub closed : opens_comment (drop s.from xs) ≡ false

at_measured : (at : ℕ) (ys : List ℕ) (s : Span) → sentence_at at ys ≡ Some (Ok s)
    → (s.from ≡ at) × (sentence_length at ys ≡ Ok (s.to - at)) × (opens_comment ys ≡ false)
at_measured at [] s e = absurd (cc)
at_measured at (b ∷ rest) s e = by (opens_comment (b ∷ rest)) refl e
  where
    limit : (n : ℕ) → sentence_length at (b ∷ rest) ≡ Ok n → (t : Bool)
        → (if t then Ok (record { from = at; to = at + n }) else Err (TooLong at)) ≡ Ok s
        → (s.from ≡ at) × (sentence_length at (b ∷ rest) ≡ Ok (s.to - at))
    limit n l true e =
        let span : record { from = at; to = at + n } ≡ s = cc in
        let from : at ≡ s.from = ap (λ x. x.from) span in
        let to : at + n ≡ s.to = ap (λ x. x.to) span in
        let count : n ≡ s.to - at = omega (arith, to) in
        (sym from, l ∙ ap Ok count)
    limit n l false e = absurd (cc)

    fits : (r : Result ℕ CutFault) → sentence_length at (b ∷ rest) ≡ r → within_limit at r ≡ Ok s
        → (s.from ≡ at) × (sentence_length at (b ∷ rest) ≡ Ok (s.to - at))
    fits (Ok n) l e = limit n l (nat_le n 65536) e
    fits (Err f) l e = absurd (cc)

    by : (t : Bool) → opens_comment (b ∷ rest) ≡ t
        → Some (if t then Err (Unclosed at) else within_limit at (sentence_length at (b ∷ rest))) ≡ Some (Ok s) →
        (s.from ≡ at) × (sentence_length at (b ∷ rest) ≡ Ok (s.to - at)) × (opens_comment (b ∷ rest) ≡ false)
    by true t e = absurd (cc)
    by false t e =
        let found : within_limit at (sentence_length at (b ∷ rest)) ≡ Ok s = cc in
        let parts = fits (sentence_length at (b ∷ rest)) refl found in
        (parts.0, parts.1, t)

measured : (at : ℕ) (xs : List ℕ) (s : Span) → next_sentence at (drop at xs) ≡ Some (Ok s) → IsMeasured xs s
measured at xs s e =
    let found = at_measured (at + first_place begins (drop at xs)) (drop (first_place begins (drop at xs)) (drop at xs)) s e in
    let there : drop (first_place begins (drop at xs)) (drop at xs) ≡ drop s.from xs = drop-drop (first_place begins (drop at xs)) at xs
    ∙ ap (λ k. drop k xs) (sym found.0) in
    record {
      long = ap (sentence_length s.from) (sym there)
          ∙ ap (λ k. sentence_length k (drop (first_place begins (drop at xs)) (drop at xs))) found.0 ∙ found.1
          ∙ ap (λ k. Ok (s.to - k)) (sym found.0);
      closed = ap opens_comment (sym there) ∙ found.2;
    }

-- ---- the forms of sentences

begun_plain : (text : List ℕ) (i : ℕ) → i < length text → begins (drop i (outside text)) ≡ true → IsPlain text 0 i
begun_plain text i h b =
    plain_place 0 text i h (λ e. false≢true (ap (λ x. begins (x ∷ drop (i + 1) (outside text))) (sym e)
    ∙ sym (ap begins (drop_more (outside text) i 0 (omega (arith, h, length-outside text)))) ∙ b))

module _ (text : List ℕ) (s : Span) where
  abbrev first_byte : ℕ
  first_byte = get_or text s.from 0

  a_bullet : s.from < length text → s.from < s.to → IsPlain text 0 s.from → is_bullet first_byte ≡ true
      → prefix_len (λ c. c == first_byte) (drop s.from (outside text)) ≡ s.to - s.from → IsBulletSpan text s
  a_bullet h some plain bullet run = record {
    byte = first_byte;
    bullet = bullet;
    each = λ k below above. passes (k - s.from) k (omega (arith, below)) (omega (arith, below, above));
    longest = λ e. behind e (cases_lt s.to (length text));
  }
    where
      same : drop s.from (outside text) ≡ outside (drop s.from text)
      same = plain.rest

      count : prefix_len (λ c. c == first_byte) (drop s.from text) ≡ s.to - s.from
      count =
          sym (prefix_len-outside (λ c. c == first_byte) (no_bullet 40 first_byte refl bullet) (no_bullet 256 first_byte refl bullet)
          (drop s.from text))
          ∙ ap (prefix_len (λ c. c == first_byte)) (sym same) ∙ run

      passes : (j k : ℕ) → s.from + j ≡ k → j < s.to - s.from → get_or text k 0 ≡ first_byte
      passes j k e h =
          ap (λ i. get_or text i 0) (sym e) ∙ sym (get_or-drop s.from text j 0)
          ∙ eqb-true (get_or (drop s.from text) j 0) first_byte
          (prefix_len_passes (λ c. c == first_byte) (drop s.from text) j 0 (omega (arith, h, count)))

      behind : get_or text s.to 0 ≡ first_byte → (s.to < length text) ⊎ (length text ≤ s.to) → ⊥
      behind e (inl h) =
          let place : s.from + prefix_len (λ c. c == first_byte) (drop s.from text) ≡ s.to = omega (arith, count, some) in
          let there : get_or (drop s.from text) (prefix_len (λ c. c == first_byte) (drop s.from text)) 0 ≡ first_byte =
          get_or-drop s.from text (prefix_len (λ c. c == first_byte) (drop s.from text)) 0 ∙ ap (λ i. get_or text i 0) place ∙ e in
          let stopped = prefix_len_stops (λ c. c == first_byte) (drop s.from text) 0 (omega (arith, h, place, length-drop s.from text)) in
          false≢true (sym stopped ∙ eq-eqb (get_or (drop s.from text)
          (prefix_len (λ c. c == first_byte) (drop s.from text)) 0) first_byte there)
      behind e (inr h) = false≢true (ap is_bullet (sym (get_or_past text s.to 0 h) ∙ e) ∙ bullet)

  -- the text behind a span's beginning, without its comments
  abbrev behind_first : List ℕ
  behind_first = drop s.from (outside text)

  stop_at : (k : ℕ) → k < length text → IsStop text k → stops (drop k (outside text)) ≡ true
  stop_at k h i =
      ap stops (drop_more (outside text) k 0 (omega (arith, h, length-outside text)))
      ∙ ap (λ b. stops (b ∷ drop (k + 1) (outside text))) i.full_stop ∙ followed_stops (drop (k + 1) (outside text)) i.followed

  to_full_stop : {y : ℕ} {ys : List ℕ} → s.from < s.to → s.to ≤ length text → is_brace first_byte ≡ false → is_bullet first_byte ≡ false
      → drop (first_place stops behind_first) behind_first ≡ y ∷ ys → y ≡ 46
      → first_place stops behind_first + 1 ≡ s.to - s.from → IsSpanToFullStop text s
  to_full_stop {ys = ys} some within no_brace no_bullet d is count = record {
    no_brace = no_brace;
    no_bullet = no_bullet;
    last = record { full_stop = byte; followed = ap is_blank_or_end follows ∙ stop_followed ys found };
    first = λ k below above i. false≢true (sym (passed (k - s.from) k (omega (arith, below)) (omega (arith, below, above, count)))
        ∙ stop_at k (omega (arith, above, within)) i);
    closed = λ k below above. shut (k - s.from) k (omega (arith, below)) (omega (arith, below, above, count));
  }
    where
      p : ℕ
      p = first_place stops behind_first

      place : s.from + first_place stops behind_first ≡ s.to - 1
      place = omega (arith, count, some)

      here : drop (s.to - 1) (outside text) ≡ 46 ∷ ys
      here = ap (λ k. drop k (outside text)) (sym place) ∙ sym (drop-drop (first_place stops behind_first) s.from (outside text)) ∙ d
          ∙ ap (λ b. b ∷ ys) is

      byte : get_or (outside text) (s.to - 1) 0 ≡ 46
      byte =
          let none : s.to - 1 + 0 ≡ s.to - 1 = omega arith in
          ap (λ k. get_or (outside text) k 0) (sym none) ∙ sym (get_or-drop (s.to - 1) (outside text) 0 0) ∙ ap (λ l. get_or l 0 0) here

      follows : drop (s.to - 1 + 1) (outside text) ≡ ys
      follows = sym (drop-drop 1 (s.to - 1) (outside text)) ∙ ap (drop 1) here

      below_end : first_place stops behind_first < length behind_first
      below_end = omega (arith, count, within, length-drop s.from (outside text), length-outside text)

      found : stops (46 ∷ ys) ≡ true
      found = ap (λ b. stops (b ∷ ys)) (sym is) ∙ sym (ap stops d) ∙ first_place-found stops behind_first below_end

      passed : (j k : ℕ) → s.from + j ≡ k → j < first_place stops behind_first → stops (drop k (outside text)) ≡ false
      passed j k e h = ap (λ i. stops (drop i (outside text))) (sym e) ∙ ap stops (sym (drop-drop j s.from (outside text)))
          ∙ first_place-before stops behind_first j h

      shut : (j k : ℕ) → s.from + j ≡ k → j < first_place stops behind_first + 1 → opens_comment (drop k (outside text)) ≡ false
      shut j k e h = by (cases_lt j (first_place stops behind_first))
        where
          by : (j < first_place stops behind_first) ⊎ (first_place stops behind_first ≤ j) → opens_comment (drop k (outside text)) ≡ false
          by (inl b) = no_stop_opens (drop k (outside text)) (passed j k e b)
          by (inr b) =
              let last : s.to - 1 ≡ k = omega (arith, e, h, b, place) in
              ap (λ i. opens_comment (drop i (outside text))) (sym last) ∙ ap opens_comment here ∙ stop_opens ys

  -- the span goes as far as its first byte says
  formed : s.from < length text → s.from < s.to → s.to ≤ length text → IsPlain text 0 s.from → IsMeasured (outside text) s
      → IsWholeSentence text s
  formed h some within plain m = by (is_brace first_byte) refl (is_bullet first_byte) refl (sym (ap (sentence_length s.from) here) ∙ m.long)
    where
      none : s.from + 0 ≡ s.from
      none = omega arith

      rest : List ℕ
      rest = drop (s.from + 1) (outside text)

      bare : get_or (outside text) s.from 0 ≡ first_byte
      bare = plain_byte text s.from h plain

      here : drop s.from (outside text) ≡ first_byte ∷ drop (s.from + 1) (outside text)
      here = drop_more (outside text) s.from 0 (omega (arith, h, length-outside text)) ∙ ap (λ b. b ∷ drop (s.from + 1) (outside text)) bare

      at_stop : is_brace first_byte ≡ false → is_bullet first_byte ≡ false → (zs : List ℕ)
          → drop (first_place stops behind_first) behind_first ≡ zs
          → length_to_full_stop s.from (first_place stops behind_first) zs ≡ Ok (s.to - s.from) → IsWholeSentence text s
      at_stop t u [] d e = absurd (cc)
      at_stop t u (y ∷ ys) d e = by (y == 46) refl e
        where
          by : (v : Bool) → (y == 46) ≡ v → (if v then Ok (first_place stops behind_first + 1) else Err
              (Unclosed (s.from + first_place stops behind_first))) ≡ Ok (s.to - s.from) → IsWholeSentence text s
          by true v e =
              let count : first_place stops behind_first + 1 ≡ s.to - s.from = cc in
              as_full_stop (to_full_stop some within t u d (eqb-true y 46 v) count)
          by false v e = absurd (cc)

      by : (t : Bool) → is_brace first_byte ≡ t → (u : Bool) → is_bullet first_byte ≡ u
          → (if t then Ok 1 else (if u then Ok (prefix_len (λ c. c == first_byte) (first_byte ∷ drop (s.from + 1) (outside text)))
          else length_to_full_stop s.from (first_place stops (first_byte ∷ drop (s.from + 1) (outside text)))
          (drop (first_place stops (first_byte ∷ drop (s.from + 1) (outside text))) (first_byte ∷ drop (s.from + 1) (outside text)))))
          ≡ Ok (s.to - s.from)
          → IsWholeSentence text s
      by true t u v e =
          let one : 1 ≡ s.to - s.from = cc in
          as_brace (record { brace = t; one = omega (arith, one, some) })
      by false t true v e =
          let run : prefix_len (λ c. c == first_byte) (first_byte ∷ drop (s.from + 1) (outside text)) ≡ s.to - s.from = cc in
          as_bullet (a_bullet h some plain v (ap (prefix_len (λ c. c == first_byte)) here ∙ run))
      by false t false v e =
          at_stop t v (drop (first_place stops behind_first) behind_first) refl
          (ap (λ l. length_to_full_stop s.from (first_place stops l) (drop (first_place stops l) l)) here ∙ e)

each : (most : ℕ) (text : List ℕ) (at : ℕ) → All (IsWholeSentence text) (sentences_behind most (outside text) at).spans
each zero text at = All-nil (IsWholeSentence text)
each (suc most) text at = by (next_sentence at (drop at (outside text))) refl (each most text)
  where
    by : (o : Option (Result Span CutFault)) → next_sentence at (drop at (outside text)) ≡ o
        → ((p : ℕ) → All (IsWholeSentence text) (sentences_behind most (outside text) p).spans)
        → All (IsWholeSentence text) (step most (outside text) at o).spans
    by None e more = All-nil (IsWholeSentence text)
    by (Some (Err f)) e more = All-nil (IsWholeSentence text)
    by (Some (Ok s)) e more =
        let i = next_span at (drop at (outside text)) s e in
        let below = within_since (outside text) at (Ok s) e in
        let inside : s.to ≤ length text = omega (arith, i.within, below, length-drop at (outside text), length-outside text) in
        let first : s.from < length text = omega (arith, inside, i.some) in
        All-cons (IsWholeSentence text) s (sentences_behind most (outside text) s.to).spans
        (formed text s first i.some inside (begun_plain text s.from first (span_begun at (outside text) s e))
        (measured at (outside text) s e)) (more s.to)

pub spans_whole : (text : List ℕ) → All (IsWholeSentence text) (sentences_of text).spans
spans_whole text = each (length text) text 0
