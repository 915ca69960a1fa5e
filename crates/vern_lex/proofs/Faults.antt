-- What the fault of a text says.
use Rattle.std.proofs.Common.{◌≡◌, ℕ, zero, suc, ◌+◌, ◌<◌, ◌≤◌, inl, inr, ◌==◌, ◌&&◌, ◌||◌, List, [], ◌∷◌, length, drop, nat_le, Bool, true}
use Rattle.std.proofs.Common.{false, not, Option, Some, None, Result, Ok, Err, if◌then◌else◌, length-drop, refl, sym, ap, ◌∙◌, subst, arith}
use Rattle.std.specs.List.{prefix_len}
use Rattle.std.proofs.lemmas.Bool.Decides.{nat_tests}
use Rattle.std.proofs.lemmas.List.{drop-drop}
use Rattle.vern_lex.specs.Comments.{outside, first_place, begins, is_gap, opens_comment}
use Rattle.vern_lex.specs.Sentences.{IsFaultOf, needs_full_stop, place_of, is_brace, is_bullet, is_blank_or_end, stops, length_to_full_stop}
use Rattle.vern_lex.specs.Sentences.{sentence_length, within_limit, sentence_at, next_sentence, sentences_behind, sentences_of}
use Rattle.vern_lex.specs.declared.span.Span.{Span}
use Rattle.vern_lex.specs.declared.sentences.CutFault.{CutFault}
use Rattle.vern_lex.specs.declared.sentences.CutFault.TheVariants.{Unclosed, TooLong}
use Rattle.vern_lex.proofs.Cutting.{step}
use Rattle.vern_lex.proofs.Outsides.{first_place-within, first_place-found}

-- a fault of the text that stands at an offset or behind
abbrev IsFrom : ℕ → List ℕ → CutFault → Type 0
IsFrom at text f = (at ≤ place_of f) × IsFaultOf text f

stop_fault : (at : ℕ) (text xs : List ℕ) (f : CutFault) → xs ≡ drop at text → needs_full_stop xs ≡ true
    → length_to_full_stop at (first_place stops xs) (drop (first_place stops xs) xs) ≡ Err f → IsFrom at text f
stop_fault at text xs f d g e = by (drop (first_place stops xs) xs) refl e
  where
    p : ℕ
    p = first_place stops xs

    at_stop : (y : ℕ) (ys : List ℕ) → drop (first_place stops xs) xs ≡ y ∷ ys → (t : Bool) → (y == 46) ≡ t
        → (if t then Ok (first_place stops xs + 1) else Err (Unclosed (at + first_place stops xs))) ≡ Err f → IsFrom at text f
    at_stop y ys z true t e = absurd (cc)
    at_stop y ys z false t e =
        let is : Unclosed (at + first_place stops xs) ≡ f = cc in
        let below : first_place stops xs < length xs = omega (arith, ap length z, length-drop (first_place stops xs) xs) in
        let opens : opens_comment (y ∷ ys) ≡ true = sym (ap (λ u. (u && is_blank_or_end ys) || opens_comment (y ∷ ys)) t) ∙ ap stops (sym z)
        ∙ first_place-found stops xs below in
        let place : drop (at + first_place stops xs) text ≡ y ∷ ys = sym (drop-drop (first_place stops xs) at text)
        ∙ ap (drop (first_place stops xs)) (sym d) ∙ z in
        subst (IsFrom at text) is (omega arith, inl (ap opens_comment place ∙ opens))

    by : (zs : List ℕ) → drop (first_place stops xs) xs ≡ zs → length_to_full_stop at (first_place stops xs) zs ≡ Err f → IsFrom at text f
    by [] z e =
        let is : Unclosed at ≡ f = cc in
        let none : first_place stops xs ≡ length xs =
        omega (arith, ap length z, length-drop (first_place stops xs) xs, first_place-within stops xs) in
        subst (IsFrom at text) is (omega arith, inr (ap needs_full_stop (sym d) ∙ g, subst (λ ys. first_place stops ys ≡ length ys) d none))
    by (y ∷ ys) z e = at_stop y ys z (y == 46) refl e

none_of : (x y z : Bool) → not x ≡ true → y ≡ false → z ≡ false → not (x || y || z) ≡ true
none_of true y z g s t = absurd (cc)
none_of false true z g s t = absurd (cc)
none_of false false true g s t = absurd (cc)
none_of false false false g s t = refl

abbrev bytes_from : ℕ → ℕ → Span
bytes_from at n = record { from = at; to = at + n }

past : (n : ℕ) → nat_le n 65536 ≡ false → 65536 < n
past n h = grind (arith, nat_tests)

-- what a sentence's first byte says of the fault at it
module _ (at b : ℕ) (text rest : List ℕ) (f : CutFault) (d : b ∷ rest ≡ drop at text) (g : begins (b ∷ rest) ≡ true) where
  length_fault : sentence_length at (b ∷ rest) ≡ Err f → IsFrom at text f
  length_fault e = by (is_brace b) refl (is_bullet b) refl e
    where
      by : (s : Bool) → is_brace b ≡ s → (t : Bool) → is_bullet b ≡ t
          → (if s then Ok 1 else (if t then Ok (prefix_len (λ c. c == b) (b ∷ rest)) else length_to_full_stop at
          (first_place stops (b ∷ rest)) (drop (first_place stops (b ∷ rest)) (b ∷ rest)))) ≡ Err f
          → IsFrom at text f
      by true s t u e = absurd (cc)
      by false s true u e = absurd (cc)
      by false s false u e = stop_fault at text (b ∷ rest) f d (none_of (is_gap b) (is_brace b) (is_bullet b) g s u) e

  limit_fault : (r : Result ℕ CutFault) → sentence_length at (b ∷ rest) ≡ r → within_limit at r ≡ Err f → IsFrom at text f
  limit_fault (Err h) l e = let is : h ≡ f = cc in length_fault (l ∙ ap Err is)
  limit_fault (Ok n) l e = by (nat_le n 65536) refl e
    where
      by : (t : Bool) → nat_le n 65536 ≡ t → (if t then Ok (bytes_from at n) else Err (TooLong at)) ≡ Err f → IsFrom at text f
      by true t e = absurd (cc)
      by false t e =
          let is : TooLong at ≡ f = cc in
          subst (IsFrom at text) is (omega arith, (ap begins (sym d) ∙ g, (n, ap (sentence_length at) (sym d) ∙ l, past n t)))

at_fault : (at : ℕ) (text xs : List ℕ) (f : CutFault) → xs ≡ drop at text → (0 < length xs → begins xs ≡ true)
    → sentence_at at xs ≡ Some (Err f) → IsFrom at text f
at_fault at text [] f d g e = absurd (cc)
at_fault at text (b ∷ rest) f d g e = by (opens_comment (b ∷ rest)) refl e
  where
    by : (t : Bool) → opens_comment (b ∷ rest) ≡ t
        → Some (if t then Err (Unclosed at) else within_limit at (sentence_length at (b ∷ rest))) ≡ Some (Err f) → IsFrom at text f
    by true t e = let is : Unclosed at ≡ f = cc in subst (IsFrom at text) is (omega arith, inl (ap opens_comment (sym d) ∙ t))
    by false t e =
        let found : within_limit at (sentence_length at (b ∷ rest)) ≡ Err f = cc in
        limit_fault at b text rest f d (g (omega arith)) (sentence_length at (b ∷ rest)) refl found

next_fault : (at : ℕ) (text : List ℕ) (f : CutFault) → next_sentence at (drop at text) ≡ Some (Err f) → IsFrom at text f
next_fault at text f e =
    let found = at_fault (at + first_place begins (drop at text)) text (drop (first_place begins (drop at text)) (drop at text)) f
    (drop-drop (first_place begins (drop at text)) at text)
    (λ h. first_place-found begins (drop at text) (omega (arith, h, length-drop (first_place begins (drop at text)) (drop at text)))) e in
    (omega (arith, found.0), found.1)

faulted : (most : ℕ) (text : List ℕ) (at : ℕ) (f : CutFault) → (sentences_behind most text at).fault ≡ Some f
    → IsFrom (sentences_behind most text at).rest text f
faulted zero text at f e = absurd (cc)
faulted (suc most) text at f e = by (next_sentence at (drop at text)) refl (faulted most text) e
  where
    by : (o : Option (Result Span CutFault)) → next_sentence at (drop at text) ≡ o
        → ((p : ℕ) (g : CutFault) → (sentences_behind most text p).fault ≡ Some g → IsFrom (sentences_behind most text p).rest text g)
        → (step most text at o).fault ≡ Some f → IsFrom (step most text at o).rest text f
    by None o more e = absurd (cc)
    by (Some (Err g)) o more e = let is : g ≡ f = cc in next_fault at text f (o ∙ ap (λ h. Some (Err h)) is)
    by (Some (Ok s)) o more e = more s.to f e

pub spans_faulted : (text : List ℕ) (fault : CutFault) → (sentences_of text).fault ≡ Some fault
    → ((sentences_of text).rest ≤ place_of fault) × IsFaultOf (outside text) fault
spans_faulted text fault e = faulted (length text) (outside text) 0 fault e
