-- What the machine computes stands first in the text.
use Rattle.std.proofs.Common.{◌≡◌, ◌≢◌, inl, inr, ℕ, suc, ◌+◌, ◌-◌, ◌<◌, ◌≤◌, ◌==◌, ◌&&◌, List, [], ◌∷◌, ◌++◌, length, Bool, true, false}
use Rattle.std.proofs.Common.{not, nat_le, if◌then◌else◌, refl, sym, ap, ◌∙◌, subst, append_assoc, append-nil, length-append, arith}
use Rattle.std.proofs.Common.{true≢false}
use Rattle.std.proofs.lemmas.Bool.{leb-true, leb-false, and_parts, eqb-true, eqb-false, false≢true, not_from_false}
use Rattle.std.proofs.lemmas.List.Elements.{All-nil, All-cons, All-head, All-tail}
use Rattle.std.specs.List.{AllPass}
use Rattle.sexp_theory.specs.Values.{Value, nesting}
use Rattle.sexp_theory.specs.Signs.{is_blank, is_plain, is_delimiter}
use Rattle.sexp_theory.specs.Spelling.{is_of_line, IsGap, IsRun}
use Rattle.sexp_theory.specs.Places.{Found, nothing, unfinished, last_run, value, bad, most_lists, IsInComment, IsUnfinished, in_list}
use Rattle.sexp_theory.specs.Places.{in_comment, in_run, in_quotes, in_escape, too_long, IsFound, IsFoundBehindLine}
use Rattle.sexp_theory.specs.Machine.{State, Mode, between, commented, run, hash, quoted, escaped, decimal1, decimal2, hexadecimal0}
use Rattle.sexp_theory.specs.Machine.{hexadecimal1, Step, on, whole, shown, step, start, is_outer_run, is_behind, at_end, found}
use Rattle.sexp_theory.specs.Machine.{found_behind_line, found_from}
use Rattle.sexp_theory.specs.declared.input.BadKind.TheVariants.{TooLong}
use Rattle.sexp_theory.proofs.Lists.{last_push, last}
use Rattle.sexp_theory.proofs.Walks.{found_by}
use Rattle.sexp_theory.proofs.Found.{Starts}
use Rattle.sexp_theory.proofs.Grown.{no_gap, blank_gap, comment_gap, gap_append, Opened, opened_is_open}
use Rattle.sexp_theory.proofs.Kept.{InRun, InComment, InEscape, At, Kept, run_words, quotes_words, escape_words, WholeBy, Good, First, good}

-- ---- the end of the text

comment_words : (bytes : List ℕ) (us : List Value) (ls : List (List Value)) → InComment bytes (us ∷ ls)
    → IsInComment (suc (length ls)) bytes
comment_words bytes us ls h = record {
  before = h.0;
  words = h.1;
  spelled = h.2;
  opened = opened_is_open (us ∷ ls) h.0 h.3;
  one_line = h.4;
  no_hash = λ front e. h.5 (ap (last 32) e ∙ last_push 32 front 35);
}

between_unfinished : (lists : List (List Value)) (bytes : List ℕ) → Opened bytes lists → bytes ≢ [] → IsUnfinished bytes
between_unfinished [] bytes o n = absurd (n o)
between_unfinished (us ∷ ls) bytes o n = in_list (length ls) (opened_is_open (us ∷ ls) bytes o)

comment_unfinished : (lists : List (List Value)) (bytes : List ℕ) → InComment bytes lists → IsUnfinished bytes
comment_unfinished [] bytes h = absurd h
comment_unfinished (us ∷ ls) bytes h = in_comment (length ls) (comment_words bytes us ls h)

unfinished_at : (m : Mode) (bytes own : List ℕ) (lists : List (List Value)) → At m bytes own lists → bytes ≢ [] → IsUnfinished bytes
unfinished_at between bytes own lists h n = between_unfinished lists bytes h.1 n
unfinished_at commented bytes own lists h n = comment_unfinished lists bytes h.1
unfinished_at run bytes own lists h n = in_run (length lists) h.0.0 own (run_words bytes own lists h.0)
unfinished_at hash bytes own lists h n = in_run (length lists) h.0.0 own (run_words bytes own lists h.0)
unfinished_at quoted bytes own lists h n = in_quotes (length lists) h.0 (quotes_words bytes own lists h)
unfinished_at escaped bytes own lists h n = in_escape (length lists) h.0 h.1 (escape_words escaped bytes own lists h)
unfinished_at (decimal1 k) bytes own lists h n = in_escape (length lists) h.0 h.1 (escape_words (decimal1 k) bytes own lists h)
unfinished_at (decimal2 k) bytes own lists h n = in_escape (length lists) h.0 h.1 (escape_words (decimal2 k) bytes own lists h)
unfinished_at hexadecimal0 bytes own lists h n = in_escape (length lists) h.0 h.1 (escape_words hexadecimal0 bytes own lists h)
unfinished_at (hexadecimal1 k) bytes own lists h n = in_escape (length lists) h.0 h.1 (escape_words (hexadecimal1 k) bytes own lists h)

middle_plain : (front : List ℕ) (b : ℕ) (rest : List ℕ) → AllPass is_plain (front ++ b ∷ rest) → is_plain b ≡ true
middle_plain [] b rest h = All-head (λ c. is_plain c ≡ true) b rest h
middle_plain (c ∷ front) b rest h = middle_plain front b rest (All-tail (λ d. is_plain d ≡ true) c (front ++ b ∷ rest) h)

no_run : (bytes front rest : List ℕ) (b : ℕ) → bytes ≡ front ++ b ∷ rest → is_plain b ≡ false → IsRun bytes → ⊥
no_run bytes front rest b e p r = true≢false (sym (middle_plain front b rest (subst (AllPass is_plain) e r.plain)) ∙ p)

between_no_run : (lists : List (List Value)) (bytes : List ℕ) → Opened bytes lists → IsRun bytes → ⊥
between_no_run [] bytes o r = omega (arith, r.some, ap length o)
between_no_run (us ∷ ls) bytes o r = no_run bytes o.0 o.1 40 o.2 refl r

comment_no_run : (lists : List (List Value)) (bytes : List ℕ) → InComment bytes lists → IsRun bytes → ⊥
comment_no_run [] bytes h r = h
comment_no_run (us ∷ ls) bytes h r = no_run bytes h.0 h.1 59 h.2 refl r

inner_no_run : (bytes own : List ℕ) (us : List Value) (ls : List (List Value)) → InRun bytes own (us ∷ ls) → IsRun bytes → ⊥
inner_no_run bytes own us ls h r = no_run bytes h.2.0 (h.2.1 ++ own) 40 (h.1 ∙ ap (λ xs. xs ++ own) h.2.2
    ∙ append_assoc h.2.0 (40 ∷ h.2.1) own) refl r

escape_no_run : (m : Mode) (bytes of : List ℕ) (lists : List (List Value)) → InEscape m bytes of lists → IsRun bytes → ⊥
escape_no_run m bytes of lists h r = no_run bytes h.3.0 (h.3.1 ++ h.1) 34 (h.2 ∙ ap (λ xs. xs ++ h.1) h.3.2
    ∙ append_assoc h.3.0 (34 ∷ h.3.1) h.1) refl r

-- a run that is the whole item stands outside of lists
outer_at : (m : Mode) (bytes own : List ℕ) (lists : List (List Value)) → At m bytes own lists → IsRun bytes → is_outer_run m lists ≡ true
outer_at between bytes own lists h r = absurd (between_no_run lists bytes h.1 r)
outer_at commented bytes own lists h r = absurd (comment_no_run lists bytes h.1 r)
outer_at run bytes own [] h r = refl
outer_at run bytes own (us ∷ ls) h r = absurd (inner_no_run bytes own us ls h.0 r)
outer_at hash bytes own [] h r = refl
outer_at hash bytes own (us ∷ ls) h r = absurd (inner_no_run bytes own us ls h.0 r)
outer_at quoted bytes own lists h r = absurd (no_run bytes h.0 h.1 34 h.2 refl r)
outer_at escaped bytes own lists h r = absurd (escape_no_run escaped bytes own lists h r)
outer_at (decimal1 k) bytes own lists h r = absurd (escape_no_run (decimal1 k) bytes own lists h r)
outer_at (decimal2 k) bytes own lists h r = absurd (escape_no_run (decimal2 k) bytes own lists h r)
outer_at hexadecimal0 bytes own lists h r = absurd (escape_no_run hexadecimal0 bytes own lists h r)
outer_at (hexadecimal1 k) bytes own lists h r = absurd (escape_no_run (hexadecimal1 k) bytes own lists h r)

-- and a run outside of lists is the whole item
outer_is : (m : Mode) (bytes own : List ℕ) (lists : List (List Value)) → At m bytes own lists → is_outer_run m lists ≡ true
    → (bytes ≡ own) × IsRun own
outer_is run bytes own [] h e = (h.0.1 ∙ ap (λ xs. xs ++ own) h.0.2, h.0.4)
outer_is run bytes own (us ∷ ls) h e = absurd (false≢true e)
outer_is hash bytes own [] h e = (h.0.1 ∙ ap (λ xs. xs ++ own) h.0.2, h.0.4)
outer_is hash bytes own (us ∷ ls) h e = absurd (false≢true e)
outer_is between bytes own lists h e = absurd (false≢true e)
outer_is commented bytes own lists h e = absurd (false≢true e)
outer_is quoted bytes own lists h e = absurd (false≢true e)
outer_is other bytes own lists h e = absurd (false≢true e)

by_test : (P : Found → Type 0) (c : Bool) (x y : Found) → (c ≡ true → P x) → (c ≡ false → P y) → P (if c then x else y)
by_test P true x y h k = h refl
by_test P false x y h k = k refl

end_found : (limit from : ℕ) (bytes : List ℕ) (s : State) → Kept bytes s → bytes ≢ [] → length bytes ≤ limit
    → IsFound limit from bytes (at_end from s)
end_found limit from bytes s h n l = by_test (IsFound limit from bytes) (is_outer_run s.mode s.lists) (last_run s.atom from)
    (unfinished from)
    (λ e. let r = outer_is s.mode bytes s.atom s.lists h e in ([], r.0, no_gap, r.1, omega (arith, l, ap length r.0), omega arith))
    (λ e. (
      [],
      bytes,
      refl,
      no_gap,
      unfinished_at s.mode bytes s.atom s.lists h n,
      (λ r. true≢false (sym (outer_at s.mode bytes s.atom s.lists h r) ∙ e)),
      l,
      omega arith,
    ))

-- ---- a byte more

cons_some : (b : ℕ) (bytes : List ℕ) → b ∷ bytes ≡ [] → ⊥
cons_some b bytes e = omega (arith, ap length e)

room_from : (behind : Bool) (limit n : ℕ) → (not behind && nat_le limit n) ≡ false → behind ≡ false → n < limit
room_from true limit n e k = absurd (true≢false k)
room_from false limit n e k = leb-false limit n e

not_behind_plain : (o d : Bool) → not (o && d) ≡ true → o ≡ true → not d ≡ true
not_behind_plain false d e k = absurd (false≢true k)
not_behind_plain true d e k = e

module _ (limit from : ℕ) (bytes more : List ℕ) (b : ℕ) (l : length bytes ≤ limit) where
  whole_found : (v : Value) (behind : Bool) → (behind ≡ false → length bytes < limit) → nesting v ≤ most_lists → WholeBy behind bytes b v
      → IsFound limit from (bytes ++ b ∷ more) (value v from (if behind then from + length bytes else from + length bytes + 1))
  whole_found v true room fits h =
      ([], bytes, b ∷ more, refl, no_gap, h.1, (λ r e. cons_some b more e), (λ r. h.2), fits, l, omega arith, refl)
  whole_found v false room fits h =
      let n = length-append bytes (b ∷ []) in (
        [],
        bytes ++ b ∷ [],
        more,
        sym (append_assoc bytes (b ∷ []) more),
        no_gap,
        h.0,
        (λ r. absurd (h.1 r)),
        (λ r. absurd (h.1 r)),
        fits,
        omega (arith, n, room refl),
        omega arith,
        omega (arith, n),
      )

  next_found : (s : State) (r : Step) → (is_behind s b ≡ false → length bytes < limit) → Good bytes b (is_behind s b) r
      → ((t : State) → Kept (bytes ++ b ∷ []) t → length (bytes ++ b ∷ []) ≤ limit
      → IsFound limit from ((bytes ++ b ∷ []) ++ more) (found_from limit from (length (bytes ++ b ∷ [])) t more))
      → IsFound limit from (bytes ++ b ∷ more) (found_by limit from (length bytes) s b more r)
  next_found s (on t) room h ih =
      let n : length (bytes ++ b ∷ []) ≡ length bytes + 1 = length-append bytes (b ∷ []) in
      subst (λ xs. IsFound limit from xs (found_from limit from (length bytes + 1) t more)) (append_assoc bytes (b ∷ []) more)
      (subst (λ k. IsFound limit from ((bytes ++ b ∷ []) ++ more) (found_from limit from k t more)) n
      (ih t h.1 (omega (arith, n, room h.0))))
  next_found s (whole v) room h ih = whole_found v (is_behind s b) room h.0 h.1
  next_found s (shown kind back) room h ih =
      ([], bytes, more, b, length bytes - back, refl, no_gap, h.1 limit l room, omega (arith, h.0))

  too_long_found : (s : State) → Kept bytes s → bytes ≢ []
      → (not (is_behind s b) && nat_le limit (length bytes)) ≡ true
      → IsFound limit from (bytes ++ b ∷ more) (bad TooLong (from + length bytes))
  too_long_found s h n e =
      let p = and_parts (not (is_behind s b)) (nat_le limit (length bytes)) e in
      let full : length bytes ≡ limit = omega (arith, l, leb-true limit (length bytes) p.1) in (
        [],
        bytes,
        more,
        b,
        limit,
        refl,
        no_gap,
        too_long (unfinished_at s.mode bytes s.atom s.lists h n)
            (λ r. not_behind_plain (is_outer_run s.mode s.lists) (is_delimiter b) p.0 (outer_at s.mode bytes s.atom s.lists h r)) full,
        omega (arith, full),
      )

no_start : Starts [] → ⊥
no_start h = cons_some h.0 h.1 (sym h.2)

first_from : (bytes : List ℕ) (b : ℕ) (more : List ℕ) → (bytes ≡ [] → Starts (b ∷ more)) → First bytes b
first_from bytes b more h none = let s = h none in let same : s.0 ≡ b = cc in
    (subst (λ c. is_blank c ≡ false) same s.3, subst (λ c. c ≡ 59 → ⊥) same (eqb-false s.0 59 s.4))

module _ (limit from : ℕ) (z : 0 < limit) where
  pub found_rest : (rest : List ℕ) (s : State) (bytes : List ℕ) → Kept bytes s → length bytes ≤ limit
      → (bytes ≡ [] → Starts rest)
      → IsFound limit from (bytes ++ rest) (found_from limit from (length bytes) s rest)
  found_rest [] s bytes h l f =
      subst (λ xs. IsFound limit from xs (at_end from s)) (sym (append-nil bytes))
      (end_found limit from bytes s h (λ none. no_start (f none)) l)
  found_rest (b ∷ more) s bytes h l f =
      by_test (IsFound limit from (bytes ++ b ∷ more)) (not (is_behind s b) && nat_le limit (length bytes))
      (bad TooLong (from + length bytes)) (found_by limit from (length bytes) s b more (step s b))
      (λ e. too_long_found limit from bytes more b l s h
      (λ none. absurd (omega (
        arith,
        z,
        ap length none,
        leb-true limit (length bytes) (and_parts (not (is_behind s b)) (nat_le limit (length bytes)) e).1,
      ))) e)
      (λ e. next_found limit from bytes more b l s (step s b) (room_from (is_behind s b) limit (length bytes) e)
      (good bytes s b h (first_from bytes b more f))
      (λ t k j. found_rest more t (bytes ++ b ∷ []) k j
      (λ none. absurd (omega (arith, ap length none, length-append bytes (b ∷ []))))))

-- ---- before the item

gap_found : (limit at : ℕ) (gap text : List ℕ) (f : Found) → IsGap gap → IsFound limit (at + length gap) text f
    → IsFound limit at (gap ++ text) f
gap_found limit at gap text nothing g (inl h) = inl (gap_append gap text g h)
gap_found limit at gap text nothing g (inr h) =
    inr (gap ++ h.0, h.1, ap (λ xs. gap ++ xs) h.2 ∙ sym (append_assoc gap h.0 (59 ∷ h.1)), gap_append gap h.0 g h.3, h.4)
gap_found limit at gap text (unfinished from) g h = (
  gap ++ h.0,
  h.1,
  ap (λ xs. gap ++ xs) h.2 ∙ sym (append_assoc gap h.0 h.1),
  gap_append gap h.0 g h.3,
  h.4,
  h.5,
  h.6,
  omega (arith, h.7, length-append gap h.0),
)
gap_found limit at gap text (last_run own from) g h = (
  gap ++ h.0,
  ap (λ xs. gap ++ xs) h.1 ∙ sym (append_assoc gap h.0 own),
  gap_append gap h.0 g h.2,
  h.3,
  h.4,
  omega (arith, h.5, length-append gap h.0),
)
gap_found limit at gap text (value v from to) g h = (
  gap ++ h.0,
  h.1,
  h.2,
  ap (λ xs. gap ++ xs) h.3
      ∙ sym (append_assoc gap h.0 (h.1 ++ h.2)),
  gap_append gap h.0 g h.4,
  h.5,
  h.6,
  h.7,
  h.8,
  h.9,
  omega (arith, h.10, length-append gap h.0),
  h.11,
)
gap_found limit at gap text (bad kind offset) g h = (
  gap ++ h.0,
  h.1,
  h.2,
  h.3,
  h.4,
  ap (λ xs. gap ++ xs) h.5
      ∙ sym (append_assoc gap h.0 (h.1 ++ h.3 ∷ h.2)),
  gap_append gap h.0 g h.6,
  h.7,
  omega (arith, h.8, length-append gap h.0),
)

line_found : (limit at : ℕ) (rest : List ℕ) (f : Found) → IsFoundBehindLine limit (at + 1) rest f → IsFound limit at (59 ∷ rest) f
line_found limit at rest f (inl h) = subst (IsFound limit at (59 ∷ rest)) (sym h.1) (inr ([], rest, refl, no_gap, h.0))
line_found limit at rest f (inr h) =
    let n : at + 1 + length h.0 + 1 ≡ at + length (59 ∷ (h.0 ++ 10 ∷ [])) = omega (arith, length-append h.0 (10 ∷ [])) in
    subst (λ xs. IsFound limit at xs f) (sym (ap (λ xs. 59 ∷ xs) (h.2 ∙ sym (append_assoc h.0 (10 ∷ []) h.1))))
    (gap_found limit at (59 ∷ (h.0 ++ 10 ∷ [])) h.1 f (comment_gap h.0 h.3) (subst (λ k. IsFound limit k h.1 f) n h.4))

line_ends : (limit at b : ℕ) (rest : List ℕ) (f : Found) → b ≡ 10 → IsFound limit (at + 1) rest f → IsFoundBehindLine limit at (b ∷ rest) f
line_ends limit at b rest f e h =
    let n : at + 1 ≡ at + 0 + 1 = omega arith in
    inr ([], rest, ap (λ c. c ∷ rest) e, All-nil (λ c. is_of_line c ≡ true), subst (λ k. IsFound limit k rest f) n h)

line_goes_on : (limit at b : ℕ) (rest : List ℕ) (f : Found) → is_of_line b ≡ true → IsFoundBehindLine limit (at + 1) rest f
    → IsFoundBehindLine limit at (b ∷ rest) f
line_goes_on limit at b rest f p (inl h) = inl (All-cons (λ c. is_of_line c ≡ true) b rest p h.0, h.1)
line_goes_on limit at b rest f p (inr h) =
    let n : at + 1 + length h.0 + 1 ≡ at + length (b ∷ h.0) + 1 = omega arith in
    inr (b ∷ h.0, h.1, ap (λ xs. b ∷ xs) h.2, All-cons (λ c. is_of_line c ≡ true) b h.0 p h.3, subst (λ k. IsFound limit k h.1 f) n h.4)

mutual
  pub found_text : (text : List ℕ) (limit at : ℕ) → 0 < limit → IsFound limit at text (found limit at text)
  found_text [] limit at z = inl no_gap
  found_text (b ∷ rest) limit at z =
      by_test (IsFound limit at (b ∷ rest)) (is_blank b) (found limit (at + 1) rest)
      (if b == 59 then found_behind_line limit (at + 1) rest else found_from limit at 0 start (b ∷ rest))
      (λ e. gap_found limit at (b ∷ []) rest (found limit (at + 1) rest) (blank_gap b e) (found_text rest limit (at + 1) z))
      (λ n. by_test (IsFound limit at (b ∷ rest)) (b == 59) (found_behind_line limit (at + 1) rest) (found_from limit at 0 start (b ∷ rest))
      (λ e. subst (λ c. IsFound limit at (c ∷ rest) (found_behind_line limit (at + 1) rest)) (sym (eqb-true b 59 e))
      (line_found limit at rest (found_behind_line limit (at + 1) rest) (behind_text rest limit (at + 1) z)))
      (λ k. found_rest limit at z (b ∷ rest) start [] (refl, refl, refl) (omega arith) (λ none. (b, rest, refl, n, k))))

  pub behind_text : (text : List ℕ) (limit at : ℕ) → 0 < limit → IsFoundBehindLine limit at text (found_behind_line limit at text)
  behind_text [] limit at z = inl (All-nil (λ c. is_of_line c ≡ true), refl)
  behind_text (b ∷ rest) limit at z =
      by_test (IsFoundBehindLine limit at (b ∷ rest)) (b == 10) (found limit (at + 1) rest) (found_behind_line limit (at + 1) rest)
      (λ e. line_ends limit at b rest (found limit (at + 1) rest) (eqb-true b 10 e) (found_text rest limit (at + 1) z))
      (λ n. line_goes_on limit at b rest (found_behind_line limit (at + 1) rest) (not_from_false (b == 10) n)
      (behind_text rest limit (at + 1) z))
