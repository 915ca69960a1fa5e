-- The sentences of a text, one after the other.
use Rattle.std.proofs.Common.{◌≡◌, ℕ, zero, suc, ◌+◌, ◌-◌, ◌<◌, ◌≤◌, ◌⊎◌, inl, inr, ◌==◌, List, [], ◌∷◌, ◌++◌, length, drop, get_or, nat_le}
use Rattle.std.proofs.Common.{Bool, true, false, Option, Some, None, Result, Ok, Err, if◌then◌else◌, length-drop, get_or-drop, append_assoc}
use Rattle.std.proofs.Common.{append-nil, refl, sym, ap, ◌∙◌, subst, arith}
use Rattle.std.specs.List.{prefix_len}
use Rattle.std.proofs.lemmas.Bool.{false≢true, cases_lt, eqb-true, eq-eqb, leb-true}
use Rattle.std.proofs.lemmas.List.{drop_all, drop-drop}
use Rattle.std.specs.List.{All}
use Rattle.std.proofs.lemmas.List.Elements.{All-nil, All-cons}
use Rattle.std.proofs.lemmas.List.Sums.{prefix_len_passes, prefix_len-le-length}
use Rattle.vern_lex.specs.Comments.{outside, first_place, begins, opens_comment}
use Rattle.vern_lex.specs.Sentences.{IsSentenceSpan, Rise, last_end, is_brace, is_bullet, stops, length_to_full_stop, sentence_length}
use Rattle.vern_lex.specs.Sentences.{within_limit, sentence_at, next_sentence, cut_up_to, with_span, sentences_behind, sentences_of}
use Rattle.vern_lex.specs.declared.span.Span.{Span}
use Rattle.vern_lex.specs.declared.sentences.SentenceCut.{SentenceCut}
use Rattle.vern_lex.specs.declared.sentences.CutFault.{CutFault}
use Rattle.vern_lex.specs.declared.sentences.CutFault.TheVariants.{Unclosed, TooLong}
use Rattle.vern_lex.proofs.Outsides.{plain_place, plain_next, length-outside, first_place-within, first_place-found}

-- a sentence at the front of a text has so many bytes, and its last byte isn't of a comment
pub record IsLength (xs : List ℕ) (n : ℕ) : Type 0 where
  pub some : 0 < n
  pub within : n ≤ length xs
  pub ends : get_or xs (n - 1) 0 ≡ 256 → ⊥

full_stop_length : (at : ℕ) (xs : List ℕ) (place n : ℕ) → place ≤ length xs → length_to_full_stop at place (drop place xs) ≡ Ok n
    → IsLength xs n
full_stop_length at xs place n h e = by (drop place xs) refl e
  where
    at_stop : (y : ℕ) (ys : List ℕ) → drop place xs ≡ y ∷ ys → (t : Bool) → (y == 46) ≡ t
        → (if t then Ok (place + 1) else Err (Unclosed (at + place))) ≡ Ok n → IsLength xs n
    at_stop y ys d true t e =
        let count : place + 1 ≡ n = cc in
        let none : place + 0 ≡ n - 1 = omega (arith, count) in
        let there : get_or xs (n - 1) 0 ≡ y = ap (λ k. get_or xs k 0) (sym none) ∙ sym (get_or-drop place xs 0 0)
        ∙ ap (λ zs. get_or zs 0 0) d in
        let rest : length xs - place ≡ suc (length ys) = sym (length-drop place xs) ∙ ap length d in
        record {
          some = omega (arith, count);
          within = omega (arith, count, rest);
          ends =
              λ x. false≢true (ap (λ b. b == 46) (sym x ∙ there) ∙ t);
        }
    at_stop y ys d false t e = absurd (cc)

    by : (zs : List ℕ) → drop place xs ≡ zs → length_to_full_stop at place zs ≡ Ok n → IsLength xs n
    by [] d e = absurd (cc)
    by (y ∷ ys) d e = at_stop y ys d (y == 46) refl e

bullet_length : (b n : ℕ) (rest : List ℕ) → is_bullet b ≡ true → prefix_len (λ c. c == b) (b ∷ rest) ≡ n → IsLength (b ∷ rest) n
bullet_length b n rest bullet e =
    let same : (b == b) ≡ true = eq-eqb b b refl in
    let run : prefix_len (λ c. c == b) (b ∷ rest) ≡ 1 + prefix_len (λ c. c == b) rest =
    ap (λ t. if t then 1 + prefix_len (λ c. c == b) rest else 0) same in
    let below : n - 1 < prefix_len (λ c. c == b) (b ∷ rest) = omega (arith, run, e) in
    let last : get_or (b ∷ rest) (n - 1) 0 ≡ b = eqb-true (get_or (b ∷ rest) (n - 1) 0) b
    (prefix_len_passes (λ c. c == b) (b ∷ rest) (n - 1) 0 below) in
    record {
      some = omega (arith, run, e);
      within = omega (arith, e, prefix_len-le-length (λ c. c == b) (b ∷ rest));
      ends = λ x. false≢true (ap is_bullet (sym x ∙ last) ∙ bullet);
    }

pub is_length : (at b n : ℕ) (rest : List ℕ) → sentence_length at (b ∷ rest) ≡ Ok n → IsLength (b ∷ rest) n
is_length at b n rest e = by (is_brace b) refl (is_bullet b) refl e
  where
    stop : ℕ
    stop = first_place stops (b ∷ rest)

    by : (s : Bool) → is_brace b ≡ s → (t : Bool) → is_bullet b ≡ t
        → (if s then Ok 1 else (if t then Ok (prefix_len (λ c. c == b) (b ∷ rest)) else length_to_full_stop at
        (first_place stops (b ∷ rest)) (drop (first_place stops (b ∷ rest)) (b ∷ rest)))) ≡ Ok n
        → IsLength (b ∷ rest) n
    by true s t u e =
        let one : 1 ≡ n = cc in
        subst (IsLength (b ∷ rest)) one (record {
          some = omega arith;
          within = omega arith;
          ends =
              λ x. false≢true (ap is_brace (sym x) ∙ s);
        })
    by false s true u e = let run : prefix_len (λ c. c == b) (b ∷ rest) ≡ n = cc in bullet_length b n rest u run
    by false s false u e = full_stop_length at (b ∷ rest) (first_place stops (b ∷ rest)) n (first_place-within stops (b ∷ rest)) e

-- a span of a sentence of a text that begins at an offset
pub record IsSpan (at : ℕ) (xs : List ℕ) (s : Span) : Type 0 where
  pub behind : at ≤ s.from
  pub some : s.from < s.to
  pub within : s.to ≤ at + length xs
  pub short : s.to ≤ s.from + 65536
  pub ends : get_or xs (s.to - at - 1) 0 ≡ 256 → ⊥

limit_span : (at n : ℕ) (xs : List ℕ) (s : Span) → IsLength xs n → within_limit at (Ok n) ≡ Ok s → IsSpan at xs s
limit_span at n xs s l e = by (nat_le n 65536) refl e
  where
    by : (t : Bool) → nat_le n 65536 ≡ t → (if t then Ok (record { from = at; to = at + n }) else Err (TooLong at)) ≡ Ok s → IsSpan at xs s
    by true t e =
        let span : record { from = at; to = at + n } ≡ s = cc in
        let fits : n ≤ 65536 = leb-true n 65536 t in
        let last : at + n - at - 1 ≡ n - 1 = omega arith in
        subst (IsSpan at xs) span (record {
          behind = omega arith;
          some = omega (arith, l.some);
          within = omega (arith, l.within);
          short = omega (arith, fits);
          ends = λ x. l.ends (ap (λ k. get_or xs k 0) (sym last) ∙ x);
        })
    by false t e = absurd (cc)

at_span : (at : ℕ) (xs : List ℕ) (s : Span) → sentence_at at xs ≡ Some (Ok s) → IsSpan at xs s
at_span at [] s e = absurd (cc)
at_span at (b ∷ rest) s e = by (opens_comment (b ∷ rest)) e
  where
    fits : (r : Result ℕ CutFault) → sentence_length at (b ∷ rest) ≡ r → within_limit at r ≡ Ok s → IsSpan at (b ∷ rest) s
    fits (Ok n) l e = limit_span at n (b ∷ rest) s (is_length at b n rest l) e
    fits (Err f) l e = absurd (cc)

    by : (t : Bool) → Some (if t then Err (Unclosed at) else within_limit at (sentence_length at (b ∷ rest))) ≡ Some (Ok s)
        → IsSpan at (b ∷ rest) s
    by true e = absurd (cc)
    by false e = let found : within_limit at (sentence_length at (b ∷ rest)) ≡ Ok s = cc in fits (sentence_length at (b ∷ rest)) refl found

pub next_span : (at : ℕ) (xs : List ℕ) (s : Span) → next_sentence at xs ≡ Some (Ok s) → IsSpan at xs s
next_span at xs s e = by (first_place begins xs) (first_place-within begins xs)
    (at_span (at + first_place begins xs) (drop (first_place begins xs) xs) s e)
  where
    by : (gap : ℕ) → gap ≤ length xs → IsSpan (at + gap) (drop gap xs) s → IsSpan at xs s
    by gap h i =
        let place : gap + (s.to - (at + gap) - 1) ≡ s.to - at - 1 = omega (arith, i.behind, i.some) in
        record {
          behind = omega (arith, i.behind);
          some = i.some;
          within = omega (arith, i.within, h, length-drop gap xs);
          short = i.short;
          ends = λ x. i.ends (get_or-drop gap xs (s.to - (at + gap) - 1) 0 ∙ ap (λ k. get_or xs k 0) place ∙ x);
        }

pub nothing_next : (at : ℕ) (xs : List ℕ) → length xs ≤ at → next_sentence at (drop at xs) ≡ None
nothing_next at xs h = ap (next_sentence at) (drop_all at xs h)

-- ---- how many sentences are asked for doesn't matter, where they are enough

abbrev pub step : ℕ → List ℕ → ℕ → Option (Result Span CutFault) → SentenceCut
step most xs at found =
    elim found [
      | None ↦ cut_up_to at None
      | Some r ↦ elim r [ Ok span ↦ with_span span (sentences_behind most xs span.to) | Err fault ↦ cut_up_to at (Some fault) ]
    ]

enough : (m n : ℕ) (xs : List ℕ) (at : ℕ) → length xs - at ≤ m → length xs - at ≤ n → sentences_behind m xs at ≡ sentences_behind n xs at
enough zero zero xs at h k = refl
enough zero (suc n) xs at h k =
    let past : length xs ≤ at = omega (arith, h) in
    sym (ap (step n xs at) (nothing_next at xs past))
enough (suc m) zero xs at h k =
    let past : length xs ≤ at = omega (arith, k) in
    ap (step m xs at) (nothing_next at xs past)
enough (suc m) (suc n) xs at h k = by (next_sentence at (drop at xs)) refl (enough m n xs)
  where
    by : (o : Option (Result Span CutFault)) → next_sentence at (drop at xs) ≡ o
        → ((p : ℕ) → length xs - p ≤ m → length xs - p ≤ n → sentences_behind m xs p ≡ sentences_behind n xs p)
        → step m xs at o ≡ step n xs at o
    by None e more = refl
    by (Some (Err f)) e more = refl
    by (Some (Ok s)) e more =
        let i = next_span at (drop at xs) s e in
        ap (with_span s) (more s.to (omega (arith, i.behind, i.some, i.within, h, length-drop at xs))
        (omega (arith, i.behind, i.some, i.within, k, length-drop at xs)))

-- what stands behind an offset, with all its sentences
abbrev pub cut_behind : List ℕ → ℕ → SentenceCut
cut_behind xs at = sentences_behind (length xs - at) xs at

abbrev pub with_spans : List Span → SentenceCut → SentenceCut
with_spans spans cut = record { spans = spans ++ cut.spans; rest = cut.rest; fault = cut.fault }

pub cut_first : (text : List ℕ) → with_spans [] (cut_behind (outside text) 0) ≡ sentences_of text
cut_first text =
    let whole : length (outside text) - 0 ≡ length text = omega (arith, length-outside text) in
    ap (λ n. sentences_behind n (outside text) 0) whole

behind_is : (xs : List ℕ) (at : ℕ) → at < length xs → cut_behind xs at ≡ step (length xs - at - 1) xs at (next_sentence at (drop at xs))
behind_is xs at h =
    let one : length xs - at ≡ suc (length xs - at - 1) = omega (arith, h) in
    ap (λ n. sentences_behind n xs at) one

pub cut_none : (xs : List ℕ) (at : ℕ) → next_sentence at (drop at xs) ≡ None → cut_behind xs at ≡ cut_up_to at None
cut_none xs at e = by (cases_lt at (length xs))
  where
    by : (at < length xs) ⊎ (length xs ≤ at) → cut_behind xs at ≡ cut_up_to at None
    by (inl h) = behind_is xs at h ∙ ap (step (length xs - at - 1) xs at) e
    by (inr h) = let zero_left : length xs - at ≡ 0 = omega (arith, h) in ap (λ n. sentences_behind n xs at) zero_left

pub within_since : (xs : List ℕ) (at : ℕ) (r : Result Span CutFault) → next_sentence at (drop at xs) ≡ Some r → at < length xs
within_since xs at r e = by (cases_lt at (length xs))
  where
    by : (at < length xs) ⊎ (length xs ≤ at) → at < length xs
    by (inl h) = h
    by (inr h) = let none = nothing_next at xs h in absurd (cc)

pub cut_fault : (xs : List ℕ) (at : ℕ) (f : CutFault) → next_sentence at (drop at xs) ≡ Some (Err f)
    → cut_behind xs at ≡ cut_up_to at (Some f)
cut_fault xs at f e = behind_is xs at (within_since xs at (Err f) e) ∙ ap (step (length xs - at - 1) xs at) e

pub cut_more : (xs : List ℕ) (at : ℕ) (spans : List Span) (s : Span) → next_sentence at (drop at xs) ≡ Some (Ok s)
    → with_spans spans (cut_behind xs at) ≡ with_spans (spans ++ s ∷ []) (cut_behind xs s.to)
cut_more xs at spans s e =
    let h = within_since xs at (Ok s) e in
    let i = next_span at (drop at xs) s e in
    let fuel = enough (length xs - at - 1) (length xs - s.to) xs s.to (omega (arith, i.behind, i.some)) (omega arith) in
    ap (with_spans spans) (behind_is xs at h ∙ ap (step (length xs - at - 1) xs at) e ∙ ap (with_span s) fuel)
    ∙ ap (λ ss. record { spans = ss; rest = (cut_behind xs s.to).rest; fault = (cut_behind xs s.to).fault })
    (sym (append_assoc spans (s ∷ []) (cut_behind xs s.to).spans))

-- what the loop keeps
pub record IsCut (text : List ℕ) (spans : List Span) (at : ℕ) : Type 0 where
  pub within : at ≤ length text
  pub rest : drop at (outside text) ≡ outside (drop at text)
  pub cut : with_spans spans (cut_behind (outside text) at) ≡ sentences_of text

pub cut-begun : (text : List ℕ) → IsCut text [] 0
cut-begun text = record { within = omega arith; rest = refl; cut = cut_first text }

next_outside : (text rest : List ℕ) (spans : List Span) (at : ℕ) (o : Option (Result Span CutFault)) → IsCut text spans at
    → rest ≡ drop at text → next_sentence at (outside rest) ≡ o
    → next_sentence at (drop at (outside text)) ≡ o
next_outside text rest spans at o i r e = ap (next_sentence at) (i.rest ∙ ap outside (sym r)) ∙ e

-- behind a span no comment is open
pub span_rest : (text : List ℕ) (at : ℕ) (s : Span) → at ≤ length text → next_sentence at (drop at (outside text)) ≡ Some (Ok s)
    → drop s.to (outside text) ≡ outside (drop s.to text)
span_rest text at s h e =
    let span = next_span at (drop at (outside text)) s e in
    let ends : get_or (outside text) (s.to - 1) 0 ≡ 256 → ⊥ =
    λ x. span.ends (get_or-drop at (outside text) (s.to - at - 1) 0
    ∙ ap (λ k. get_or (outside text) k 0) (index at s.to (omega (arith, span.behind, span.some))) ∙ x) in
    let below : s.to - 1 < length text = omega (arith, span.within, span.some, length-drop at (outside text), length-outside text, h) in
    let behind : s.to - 1 + 1 ≡ s.to = omega (arith, span.some) in
    ap (λ k. drop k (outside text)) (sym behind) ∙ plain_next text (s.to - 1) below (plain_place 0 text (s.to - 1) below ends)
    ∙ ap (λ k. outside (drop k text)) behind
  where
    index : (at to : ℕ) → at < to → at + (to - at - 1) ≡ to - 1
    index at to h = omega (arith, h)

pub cut-grown : (text rest : List ℕ) (spans : List Span) (at : ℕ) (s : Span) → IsCut text spans at → rest ≡ drop at text
    → next_sentence at (outside rest) ≡ Some (Ok s)
    → IsCut text (spans ++ s ∷ []) s.to × (at < s.to)
cut-grown text rest spans at s i r e =
    let next = next_outside text rest spans at (Some (Ok s)) i r e in
    let span = next_span at (drop at (outside text)) s next in (
      record {
        within = omega (arith, span.within, length-drop at (outside text), length-outside text, i.within);
        rest = span_rest text at s i.within next;
        cut = sym (cut_more (outside text) at spans s next) ∙ i.cut;
      },
      omega (arith, span.behind, span.some),
    )

pub cut-done : (text rest : List ℕ) (spans : List Span) (at : ℕ) → IsCut text spans at → rest ≡ drop at text
    → next_sentence at (outside rest) ≡ None
    → record { spans = spans; rest = at; fault = None } ≡ sentences_of text
cut-done text rest spans at i r e =
    sym (ap (λ ss. record { spans = ss; rest = at; fault = None }) (append-nil spans))
    ∙ sym (ap (with_spans spans) (cut_none (outside text) at (next_outside text rest spans at None i r e))) ∙ i.cut

pub cut-faulted : (text rest : List ℕ) (spans : List Span) (at : ℕ) (f : CutFault) → IsCut text spans at → rest ≡ drop at text
    → next_sentence at (outside rest) ≡ Some (Err f)
    → record { spans = spans; rest = at; fault = Some f } ≡ sentences_of text
cut-faulted text rest spans at f i r e =
    sym (ap (λ ss. record { spans = ss; rest = at; fault = Some f }) (append-nil spans))
    ∙ sym (ap (with_spans spans) (cut_fault (outside text) at f (next_outside text rest spans at (Some (Err f)) i r e))) ∙ i.cut

-- ---- what the spans are

pub at_from : (at : ℕ) (xs : List ℕ) (s : Span) → sentence_at at xs ≡ Some (Ok s) → (s.from ≡ at) × (0 < length xs)
at_from at [] s e = absurd (cc)
at_from at (b ∷ rest) s e = by (opens_comment (b ∷ rest)) e
  where
    limit : (n : ℕ) (t : Bool) → (if t then Ok (record { from = at; to = at + n }) else Err (TooLong at)) ≡ Ok s → s.from ≡ at
    limit n true e = let span : record { from = at; to = at + n } ≡ s = cc in sym (ap (λ x. x.from) span)
    limit n false e = absurd (cc)

    fits : (r : Result ℕ CutFault) → within_limit at r ≡ Ok s → s.from ≡ at
    fits (Ok n) e = limit n (nat_le n 65536) e
    fits (Err f) e = absurd (cc)

    by : (t : Bool) → Some (if t then Err (Unclosed at) else within_limit at (sentence_length at (b ∷ rest))) ≡ Some (Ok s)
        → (s.from ≡ at) × (0 < length (b ∷ rest))
    by true e = absurd (cc)
    by false e = let found : within_limit at (sentence_length at (b ∷ rest)) ≡ Ok s = cc in
        (fits (sentence_length at (b ∷ rest)) found, omega arith)

pub span_begun : (at : ℕ) (xs : List ℕ) (s : Span) → next_sentence at (drop at xs) ≡ Some (Ok s) → begins (drop s.from xs) ≡ true
span_begun at xs s e =
    let ys : List ℕ = drop at xs in
    let found = at_from (at + first_place begins (drop at xs)) (drop (first_place begins (drop at xs)) (drop at xs)) s e in
    let below : first_place begins (drop at xs) < length (drop at xs) =
    omega (arith, found.1, length-drop (first_place begins (drop at xs)) (drop at xs)) in
    ap (λ k. begins (drop k xs)) found.0 ∙ ap begins (sym (drop-drop (first_place begins (drop at xs)) at xs))
    ∙ first_place-found begins (drop at xs) below

rise : (most : ℕ) (xs : List ℕ) (at : ℕ) → Rise at (sentences_behind most xs at).spans
rise zero xs at = tt
rise (suc most) xs at = by (next_sentence at (drop at xs)) refl (rise most xs)
  where
    by : (o : Option (Result Span CutFault)) → next_sentence at (drop at xs) ≡ o → ((p : ℕ) → Rise p (sentences_behind most xs p).spans)
        → Rise at (step most xs at o).spans
    by None e more = tt
    by (Some (Err f)) e more = tt
    by (Some (Ok s)) e more = ((next_span at (drop at xs) s e).behind, more s.to)

each : (most : ℕ) (text : List ℕ) (at : ℕ) → All (IsSentenceSpan text) (sentences_behind most (outside text) at).spans
each zero text at = All-nil (IsSentenceSpan text)
each (suc most) text at = by (next_sentence at (drop at (outside text))) refl (each most text)
  where
    by : (o : Option (Result Span CutFault)) → next_sentence at (drop at (outside text)) ≡ o
        → ((p : ℕ) → All (IsSentenceSpan text) (sentences_behind most (outside text) p).spans)
        → All (IsSentenceSpan text) (step most (outside text) at o).spans
    by None e more = All-nil (IsSentenceSpan text)
    by (Some (Err f)) e more = All-nil (IsSentenceSpan text)
    by (Some (Ok s)) e more =
        let i = next_span at (drop at (outside text)) s e in
        let below = within_since (outside text) at (Ok s) e in
        All-cons (IsSentenceSpan text) s (sentences_behind most (outside text) s.to).spans
        (record {
          begun = span_begun at (outside text) s e;
          some = i.some;
          short = i.short;
          within =
              omega (arith, i.within, below, length-drop at (outside text), length-outside text);
        })
        (more s.to)

rest_is : (most : ℕ) (xs : List ℕ) (at : ℕ) → (sentences_behind most xs at).rest ≡ last_end at (sentences_behind most xs at).spans
rest_is zero xs at = refl
rest_is (suc most) xs at = by (next_sentence at (drop at xs)) (rest_is most xs)
  where
    by : (o : Option (Result Span CutFault)) → ((p : ℕ) → (sentences_behind most xs p).rest ≡ last_end p (sentences_behind most xs p).spans)
        → (step most xs at o).rest ≡ last_end at (step most xs at o).spans
    by None more = refl
    by (Some (Err f)) more = refl
    by (Some (Ok s)) more = more s.to

pub spans_rise : (text : List ℕ) → Rise 0 (sentences_of text).spans
spans_rise text = rise (length text) (outside text) 0

pub spans_each : (text : List ℕ) → All (IsSentenceSpan text) (sentences_of text).spans
spans_each text = each (length text) text 0

pub spans_rest : (text : List ℕ) → (sentences_of text).rest ≡ last_end 0 (sentences_of text).spans
spans_rest text = rest_is (length text) (outside text) 0
