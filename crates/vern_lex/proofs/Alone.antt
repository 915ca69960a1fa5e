-- A span's bytes cut alone.
use Rattle.std.proofs.Common.{◌≡◌, ℕ, zero, suc, ◌+◌, ◌-◌, ◌<◌, ◌≤◌, ◌==◌, List, [], ◌∷◌, length, take, drop, get_or, nat_le, Bool, true}
use Rattle.std.proofs.Common.{false, Option, Some, None, Result, Ok, Err, if◌then◌else◌, length-drop, get_or-drop, refl, sym, ap, ◌∙◌}
use Rattle.std.proofs.Common.{arith}
use Rattle.std.specs.List.{All, prefix_len}
use Rattle.std.proofs.lemmas.Bool.{false≢true, eqb-true}
use Rattle.std.proofs.lemmas.List.{drop_more, drop-drop, get_or-take, length-take-le}
use Rattle.std.proofs.lemmas.List.Folds.{length-prefix_len}
use Rattle.std.proofs.lemmas.List.Sums.{prefix_len_is, prefix_len_passes}
use Rattle.std.proofs.lemmas.List.Elements.{All-nil, All-cons}
use Rattle.vern_lex.specs.Comments.{outside, first_place, begins, opens_comment}
use Rattle.vern_lex.specs.Sentences.{IsCutAlone, is_brace, is_bullet, stops, length_to_full_stop, sentence_length, within_limit}
use Rattle.vern_lex.specs.Sentences.{sentence_at, next_sentence, cut_up_to, with_span, sentences_behind, sentences_of}
use Rattle.vern_lex.specs.declared.span.Span.{Span}
use Rattle.vern_lex.specs.declared.sentences.CutFault.{CutFault}
use Rattle.vern_lex.specs.declared.sentences.CutFault.TheVariants.{Unclosed, TooLong}
use Rattle.vern_lex.proofs.Outsides.{length-outside, plain_place}
use Rattle.vern_lex.proofs.Parts.{outside_from-take}
use Rattle.vern_lex.proofs.Cutting.{is_length, IsSpan, next_span, at_from, span_begun, nothing_next, within_since, step}

one_more : (p : ℕ) → 1 + p ≡ suc p
one_more p = omega arith

-- ---- the length of a text that is cut off behind its first sentence

-- a run has the same length where nothing stands behind it
run-cut : (p : ℕ → Bool) (xs : List ℕ) → prefix_len p (take (prefix_len p xs) xs) ≡ prefix_len p xs
run-cut p xs =
    prefix_len_is p (take (prefix_len p xs) xs) (prefix_len p xs) 0 (omega (arith, length-prefix_len p xs))
    (λ k h. ap p (get_or-take (prefix_len p xs) xs k 0 h)
    ∙ prefix_len_passes p xs k 0 h) (λ h. absurd (omega (arith, h, length-prefix_len p xs)))

-- so does a sentence up to its full stop
stop-cut : (xs : List ℕ) → first_place stops xs < length xs → get_or xs (first_place stops xs) 0 ≡ 46
    → first_place stops (take (suc (first_place stops xs)) xs) ≡ first_place stops xs
stop-cut [] h e = absurd (omega (arith, h))
stop-cut (x ∷ []) h e = by (stops (x ∷ [])) h e
  where
    by : (t : Bool) → (if t then 0 else 1 + 0) < 1 → get_or (x ∷ []) (if t then 0 else 1 + 0) 0 ≡ 46
        → first_place stops (take (suc (if t then 0 else 1 + 0)) (x ∷ [])) ≡ (if t then 0 else 1 + 0)
    by true h e = ap (λ b. first_place stops (b ∷ [])) e
    by false h e = absurd (omega (arith, h))
stop-cut (x ∷ y ∷ rest) h e = by (stops (x ∷ y ∷ rest)) refl (stop-cut (y ∷ rest)) h e
  where
    further : ℕ
    further = first_place stops (y ∷ rest)

    by : (t : Bool) → stops (x ∷ y ∷ rest) ≡ t
        → (first_place stops (y ∷ rest) < length (y ∷ rest) → get_or (y ∷ rest) (first_place stops (y ∷ rest)) 0 ≡ 46
        → first_place stops (take (suc (first_place stops (y ∷ rest))) (y ∷ rest)) ≡ first_place stops (y ∷ rest))
        → (if t then 0 else 1 + first_place stops (y ∷ rest)) < length (x ∷ y ∷ rest)
        → get_or (x ∷ y ∷ rest) (if t then 0 else 1 + first_place stops (y ∷ rest)) 0 ≡ 46
        → first_place stops (take (suc (if t then 0 else 1 + first_place stops (y ∷ rest))) (x ∷ y ∷ rest))
        ≡ (if t then 0 else 1 + first_place stops (y ∷ rest))
    by true s more h e = ap (λ b. first_place stops (b ∷ [])) e
    by false s more h e =
        let tail = more (omega (arith, h)) (ap (λ k. get_or (x ∷ y ∷ rest) k 0) (sym (one_more (first_place stops (y ∷ rest)))) ∙ e) in
        ap (λ k. first_place stops (take (suc k) (x ∷ y ∷ rest))) (one_more (first_place stops (y ∷ rest)))
        ∙ ap (λ t. if t then 0 else 1 + first_place stops (y ∷ take (first_place stops (y ∷ rest)) rest)) s ∙ ap (λ k. 1 + k) tail

-- where a full stop ends a sentence of so many bytes
record IsStop (xs : List ℕ) (n : ℕ) : Type 0 where
  below : first_place stops xs < length xs
  last : n ≡ suc (first_place stops xs)
  is : get_or xs (first_place stops xs) 0 ≡ 46

stop_of : (at n : ℕ) (xs : List ℕ) → length_to_full_stop at (first_place stops xs) (drop (first_place stops xs) xs) ≡ Ok n → IsStop xs n
stop_of at n xs e = by (drop (first_place stops xs) xs) refl e
  where
    at_stop : (y : ℕ) (ys : List ℕ) → drop (first_place stops xs) xs ≡ y ∷ ys → (t : Bool) → (y == 46) ≡ t
        → (if t then Ok (first_place stops xs + 1) else Err (Unclosed (at + first_place stops xs))) ≡ Ok n → IsStop xs n
    at_stop y ys d true t e =
        let count : first_place stops xs + 1 ≡ n = cc in
        let none : first_place stops xs + 0 ≡ first_place stops xs = omega arith in
        let rest : length xs - first_place stops xs ≡ suc (length ys) = sym (length-drop (first_place stops xs) xs) ∙ ap length d in
        record {
          below = omega (arith, rest);
          last = omega (arith, count);
          is = ap (λ k. get_or xs k 0) (sym none) ∙ sym (get_or-drop (first_place stops xs) xs 0 0) ∙ ap (λ zs. get_or zs 0 0) d
              ∙ eqb-true y 46 t;
        }
    at_stop y ys d false t e = absurd (cc)

    by : (zs : List ℕ) → drop (first_place stops xs) xs ≡ zs → length_to_full_stop at (first_place stops xs) zs ≡ Ok n → IsStop xs n
    by [] d e = absurd (cc)
    by (y ∷ ys) d e = at_stop y ys d (y == 46) refl e

full_stop-cut : (at n : ℕ) (xs : List ℕ) → length_to_full_stop at (first_place stops xs) (drop (first_place stops xs) xs) ≡ Ok n
    → length_to_full_stop 0 (first_place stops (take n xs)) (drop (first_place stops (take n xs)) (take n xs)) ≡ Ok n
full_stop-cut at n xs e = by (first_place stops xs) i.last (omega (arith, i.below)) i.is (ap (λ k. first_place stops (take k xs)) i.last
    ∙ stop-cut xs i.below i.is)
  where
    i : IsStop xs n
    i = stop_of at n xs e

    by : (p : ℕ) → n ≡ suc p → p < length xs → get_or xs p 0 ≡ 46 → first_place stops (take n xs) ≡ p
        → length_to_full_stop 0 (first_place stops (take n xs)) (drop (first_place stops (take n xs)) (take n xs)) ≡ Ok n
    by p last below is same =
        let long : length (take n xs) ≡ n = length-take-le n xs (omega (arith, last, below)) in
        let first : drop p (take n xs) ≡ 46 ∷ drop (p + 1) (take n xs) =
        drop_more (take n xs) p 0 (omega (arith, long, last))
        ∙ ap (λ b. b ∷ drop (p + 1) (take n xs)) (get_or-take n xs p 0 (omega (arith, last)) ∙ is) in
        let count : p + 1 ≡ n = omega (arith, last) in
        ap (λ k. length_to_full_stop 0 k (drop k (take n xs))) same ∙ ap (length_to_full_stop 0 p) first ∙ ap Ok count

length-cut : (at m b : ℕ) (rest : List ℕ) → sentence_length at (b ∷ rest) ≡ Ok (suc m) → sentence_length 0 (b ∷ take m rest) ≡ Ok (suc m)
length-cut at m b rest e = by (is_brace b) (is_bullet b) e
  where
    by : (s t : Bool) → (if s then Ok 1 else (if t then Ok (prefix_len (λ c. c == b) (b ∷ rest)) else length_to_full_stop at
        (first_place stops (b ∷ rest)) (drop (first_place stops (b ∷ rest)) (b ∷ rest)))) ≡ Ok (suc m)
        → (if s then Ok 1 else (if t then Ok (prefix_len (λ c. c == b) (b ∷ take m rest)) else length_to_full_stop 0
        (first_place stops (b ∷ take m rest)) (drop (first_place stops (b ∷ take m rest)) (b ∷ take m rest)))) ≡ Ok (suc m)
    by true t e = e
    by false true e =
        let run : prefix_len (λ c. c == b) (b ∷ rest) ≡ suc m = cc in
        ap (λ k. Ok (prefix_len (λ c. c == b) (take k (b ∷ rest)))) (sym run) ∙ ap Ok (run-cut (λ c. c == b) (b ∷ rest)) ∙ e
    by false false e = full_stop-cut at (suc m) (b ∷ rest) e

-- ---- the sentence of a text that is cut off behind it

opens-cut : (b m : ℕ) (rest : List ℕ) → opens_comment (b ∷ rest) ≡ false → opens_comment (b ∷ take m rest) ≡ false
opens-cut b zero rest e = refl
opens-cut b (suc m) [] e = refl
opens-cut b (suc m) (c ∷ rest) e = e

-- the span of a whole text
abbrev whole : ℕ → Span
whole n = record { from = 0; to = n }

at-cut : (at n : ℕ) (xs : List ℕ) (s : Span) → s.to - at ≡ n → sentence_at at xs ≡ Some (Ok s)
    → sentence_at 0 (take n xs) ≡ Some (Ok (whole n))
at-cut at n [] s w e = absurd (cc)
at-cut at n (b ∷ rest) s w e = by (opens_comment (b ∷ rest)) refl e
  where
    limit : (k : ℕ) → sentence_length at (b ∷ rest) ≡ Ok k → 0 < k → opens_comment (b ∷ rest) ≡ false → (t : Bool) → nat_le k 65536 ≡ t
        → (if t then Ok (record { from = at; to = at + k }) else Err (TooLong at)) ≡ Ok s
        → sentence_at 0 (take n (b ∷ rest)) ≡ Some (Ok (whole n))
    limit zero l h o t u e = absurd (omega (arith, h))
    limit (suc m) l h o true u e =
        let span : record { from = at; to = at + suc m } ≡ s = cc in
        let to : s.to ≡ at + suc m = sym (ap (λ x. x.to) span) in
        let count : n ≡ suc m = omega (arith, w, to) in
        let none : 0 + suc m ≡ suc m = omega arith in
        ap (λ k. sentence_at 0 (take k (b ∷ rest))) count
        ∙ ap (λ t. Some (if t then Err (Unclosed 0) else within_limit 0 (sentence_length 0 (b ∷ take m rest)))) (opens-cut b m rest o)
        ∙ ap (λ r. Some (within_limit 0 r)) (length-cut at m b rest l)
        ∙ ap (λ t. Some (if t then Ok (record { from = 0; to = 0 + suc m }) else Err (TooLong 0))) u
        ∙ ap (λ k. Some (Ok (whole k))) (none ∙ sym count)
    limit (suc m) l h o false u e = absurd (cc)

    fits : (r : Result ℕ CutFault) → sentence_length at (b ∷ rest) ≡ r → opens_comment (b ∷ rest) ≡ false → within_limit at r ≡ Ok s
        → sentence_at 0 (take n (b ∷ rest)) ≡ Some (Ok (whole n))
    fits (Ok k) l o e = limit k l (is_length at b k rest l).some o (nat_le k 65536) refl e
    fits (Err f) l o e = absurd (cc)

    by : (t : Bool) → opens_comment (b ∷ rest) ≡ t
        → Some (if t then Err (Unclosed at) else within_limit at (sentence_length at (b ∷ rest))) ≡ Some (Ok s)
        → sentence_at 0 (take n (b ∷ rest)) ≡ Some (Ok (whole n))
    by true o e = absurd (cc)
    by false o e = let found : within_limit at (sentence_length at (b ∷ rest)) ≡ Ok s = cc in
        fits (sentence_length at (b ∷ rest)) refl o found

-- a text that begins with its sentence
next-begun : (xs : List ℕ) → begins xs ≡ true → next_sentence 0 xs ≡ sentence_at 0 xs
next-begun [] e = absurd (cc)
next-begun (b ∷ rest) e = ap (λ t. sentence_at (0 + (if t then 0 else 1 + first_place begins rest))
    (drop (if t then 0 else 1 + first_place begins rest) (b ∷ rest))) e

begins-cut : (m : ℕ) (xs : List ℕ) → begins xs ≡ true → begins (take (suc m) xs) ≡ true
begins-cut m [] e = absurd (cc)
begins-cut m (b ∷ rest) e = e

-- nothing is left behind the one sentence of a text
all-cut : (n : ℕ) (xs : List ℕ) → length xs ≡ suc n → next_sentence 0 xs ≡ Some (Ok (whole (suc n)))
    → sentences_behind (suc n) xs 0 ≡ record { spans = whole (suc n) ∷ []; rest = suc n; fault = None }
all-cut n xs long e = ap (step n xs 0) e ∙ ap (with_span (whole (suc n))) (left n)
  where
    left : (most : ℕ) → sentences_behind most xs (suc n) ≡ cut_up_to (suc n) None
    left zero = refl
    left (suc most) = ap (step most xs (suc n)) (nothing_next (suc n) xs (omega (arith, long)))

alone : (text : List ℕ) (at : ℕ) (s : Span) → at < length text → next_sentence at (drop at (outside text)) ≡ Some (Ok s) → IsCutAlone text s
alone text at s h e = by (s.to - s.from) refl
  where
    i : IsSpan at (drop at (outside text)) s
    i = next_span at (drop at (outside text)) s e

    gap : ℕ
    gap = first_place begins (drop at (outside text))

    begun : begins (drop s.from (outside text)) ≡ true
    begun = span_begun at (outside text) s e

    within : s.to ≤ length text
    within = omega (arith, i.within, h, length-drop at (outside text), length-outside text)

    here : drop s.from (outside text) ≡ outside (drop s.from text)
    here = (plain_place 0 text s.from (omega (arith, within, i.some))
        (λ x. false≢true (sym (ap begins (drop_more (outside text) s.from 0 (omega (arith, within, i.some, length-outside text))
        ∙ ap (λ b. b ∷ drop (s.from + 1) (outside text)) x)) ∙ begun))).rest

    one : (n : ℕ) → s.to - s.from ≡ n → sentence_at 0 (take n (drop s.from (outside text))) ≡ Some (Ok (whole n))
    one n count =
        let from = at_from (at + first_place begins (drop at (outside text)))
        (drop (first_place begins (drop at (outside text))) (drop at (outside text))) s e in
        let there : drop (first_place begins (drop at (outside text))) (drop at (outside text)) ≡ drop s.from (outside text) =
        drop-drop (first_place begins (drop at (outside text))) at (outside text) ∙ ap (λ k. drop k (outside text)) (sym from.0) in
        at-cut s.from n (drop s.from (outside text)) s count (ap (λ k. sentence_at k (drop s.from (outside text))) from.0
        ∙ ap (sentence_at (at + first_place begins (drop at (outside text)))) (sym there) ∙ e)

    never : (n : ℕ) → s.to - s.from ≡ n → (k : ℕ) → suc k ≡ n → get_or (outside (drop s.from text)) k 0 ≡ 256 → ⊥
    never n count k last x =
        let place : s.from + k ≡ at + (s.to - at - 1) = omega (arith, count, last, i.behind, i.some) in
        i.ends (get_or-drop at (outside text) (s.to - at - 1) 0 ∙ ap (λ j. get_or (outside text) j 0) (sym place)
        ∙ sym (get_or-drop s.from (outside text) k 0) ∙ ap (λ xs. get_or xs k 0) here ∙ x)

    by : (n : ℕ) → s.to - s.from ≡ n → sentences_of (take n (drop s.from text)) ≡ record { spans = whole n ∷ []; rest = n; fault = None }
    by zero count = absurd (omega (arith, count, i.some))
    by (suc m) count =
        let room : suc m ≤ length (drop s.from text) = omega (arith, count, within, length-drop s.from text) in
        let long : length (take (suc m) (drop s.from text)) ≡ suc m = length-take-le (suc m) (drop s.from text) room in
        let same : outside (take (suc m) (drop s.from text)) ≡ take (suc m) (drop s.from (outside text)) =
        outside_from-take 0 (suc m) (drop s.from text) room (never (suc m) count) ∙ ap (take (suc m)) (sym here) in
        let count_out : length (take (suc m) (drop s.from (outside text))) ≡ suc m = ap length (sym same)
        ∙ length-outside (take (suc m) (drop s.from text)) ∙ long in
        ap (λ k. sentences_behind k (outside (take (suc m) (drop s.from text))) 0) long ∙ ap (λ xs. sentences_behind (suc m) xs 0) same
        ∙ all-cut m (take (suc m) (drop s.from (outside text))) count_out
        (next-begun (take (suc m) (drop s.from (outside text))) (begins-cut m (drop s.from (outside text)) begun) ∙ one (suc m) count)

each : (most : ℕ) (text : List ℕ) (at : ℕ) → All (IsCutAlone text) (sentences_behind most (outside text) at).spans
each zero text at = All-nil (IsCutAlone text)
each (suc most) text at = by (next_sentence at (drop at (outside text))) refl (each most text)
  where
    by : (o : Option (Result Span CutFault)) → next_sentence at (drop at (outside text)) ≡ o
        → ((p : ℕ) → All (IsCutAlone text) (sentences_behind most (outside text) p).spans)
        → All (IsCutAlone text) (step most (outside text) at o).spans
    by None e more = All-nil (IsCutAlone text)
    by (Some (Err f)) e more = All-nil (IsCutAlone text)
    by (Some (Ok s)) e more =
        let below = within_since (outside text) at (Ok s) e in
        All-cons (IsCutAlone text) s (sentences_behind most (outside text) s.to).spans
        (alone text at s (omega (arith, below, length-outside text)) e) (more s.to)

pub spans_alone : (text : List ℕ) → All (IsCutAlone text) (sentences_of text).spans
spans_alone text = each (length text) text 0
