-- What stands first in a text is what the machine computes.
use Rattle.std.proofs.Common.{◌≡◌, ◌≢◌, ◌⊎◌, inl, inr, ℕ, zero, suc, ◌+◌, ◌-◌, ◌<◌, ◌≤◌, ◌==◌, ◌&&◌, List, [], ◌∷◌, ◌++◌, length, Bool}
use Rattle.std.proofs.Common.{true, false, not, nat_le, if◌then◌else◌, refl, sym, ap, ◌∙◌, subst, append_assoc, append-nil, length-append}
use Rattle.std.proofs.Common.{arith, true≢false}
use Rattle.std.proofs.lemmas.Bool.{and_left, and_from, not-false, not_from_true, not_from_false, le-leb}
use Rattle.std.proofs.lemmas.List.Elements.{All-head}
use Rattle.sexp_theory.specs.Values.{Value, atom, list, Values, values, nesting}
use Rattle.sexp_theory.specs.Signs.{is_blank, is_plain, is_delimiter}
use Rattle.sexp_theory.specs.Spelling.{IsGap, IsRun, AreBytes, Parts, Ends, Spells, SpellAll}
use Rattle.sexp_theory.specs.Places.{Found, nothing, unfinished, last_run, value, bad, most_lists, IsOpen, IsInRun, IsInQuotes}
use Rattle.sexp_theory.specs.Places.{IsUnfinished, in_list, in_comment, in_run, in_quotes, in_escape, Shows, stray_close, too_deep}
use Rattle.sexp_theory.specs.Places.{hash_bar, hash_comment, outer_hash_comment, bad_escape, too_long, IsFound, IsFoundBehindLine}
use Rattle.sexp_theory.specs.Machine.{State, Mode, on, whole, shown, step, start, run_mode, is_outer_run, is_behind, found}
use Rattle.sexp_theory.specs.Machine.{found_behind_line, found_from}
use Rattle.sexp_theory.specs.declared.input.BadKind.{BadKind}
use Rattle.sexp_theory.specs.declared.input.BadKind.TheVariants.{StrayClose, BadEscape, TooDeep, TooLong, HashBar}
use Rattle.sexp_theory.proofs.Lists.{last, last_append}
use Rattle.sexp_theory.proofs.Walks.{through, found_by, found_next, has_room, found_at, found_through}
use Rattle.sexp_theory.proofs.Steps.{running, quoting, plain_parts, run_ends, shows_hash, too_many_lists}
use Rattle.sexp_theory.proofs.Runs.{run_through}
use Rattle.sexp_theory.proofs.Quotes.{bytes_through, at_mode}
use Rattle.sexp_theory.proofs.Gaps.{behind_open_line, behind_whole_line, found_gap, found_open_comment}
use Rattle.sexp_theory.proofs.Spelled.{listed, values_listed, settled_step, seam_delimiter, no_semicolon, all_stand, open_through}
use Rattle.sexp_theory.proofs.Escapes.{EscapeStep, escape_mode, mode_begins, escape_steps}
use Rattle.sexp_theory.proofs.Inside.{unfinished_stands, run_reached, escape_reached, outer_run, no_outer_run, settled_length}

-- ---- the first byte of an item

abbrev pub Starts : List ℕ → Type 0
Starts bytes = (b : ℕ) × (rest : List ℕ) × (bytes ≡ b ∷ rest) × (is_blank b ≡ false) × ((b == 59) ≡ false)

starts_same : (xs ys : List ℕ) → xs ≡ ys → Starts ys → Starts xs
starts_same xs ys e h = subst Starts (sym e) h

starts_more : (xs ys : List ℕ) → Starts xs → Starts (xs ++ ys)
starts_more xs ys h = (h.0, h.1 ++ ys, ap (λ zs. zs ++ ys) h.2, h.3, h.4)

pub run_starts : (bytes : List ℕ) → IsRun bytes → Starts bytes
run_starts [] r = absurd (omega (arith, r.some))
run_starts (b ∷ bytes) r = let p = plain_parts b (All-head (λ c. is_plain c ≡ true) b bytes r.plain) in (b, bytes, refl, p.0, p.4)

open_then : (n : ℕ) (before more : List ℕ) → IsOpen n before → Starts more → Starts (before ++ more)
open_then zero before more h s = starts_same (before ++ more) more (ap (λ xs. xs ++ more) h) s
open_then (suc n) before more h s =
    starts_more before more (starts_same before (h.0 ++ 40 ∷ h.1) h.3 (open_then n h.0 (40 ∷ h.1) h.4 (40, h.1, refl, refl, refl)))

pub open_starts : (n : ℕ) (bytes : List ℕ) → IsOpen (suc n) bytes → Starts bytes
open_starts n bytes h = starts_same bytes (h.0 ++ 40 ∷ h.1) h.3 (open_then n h.0 (40 ∷ h.1) h.4 (40, h.1, refl, refl, refl))

quotes_start : (n : ℕ) (bytes before : List ℕ) → IsInQuotes n bytes before → Starts bytes
quotes_start n bytes before h = starts_same bytes (before ++ 34 ∷ h.inner) h.spelled
    (open_then n before (34 ∷ h.inner) h.opened (34, h.inner, refl, refl, refl))

pub unfinished_starts : (bytes : List ℕ) → IsUnfinished bytes → Starts bytes
unfinished_starts bytes (in_list n h) = open_starts n bytes h
unfinished_starts bytes (in_comment n h) = starts_same bytes (h.before ++ 59 ∷ h.words) h.spelled
    (starts_more h.before (59 ∷ h.words) (open_starts n h.before h.opened))
unfinished_starts bytes (in_run n before own h) =
    starts_same bytes (before ++ own) h.spelled (open_then n before own h.opened (run_starts own h.is_run))
unfinished_starts bytes (in_quotes n before h) = quotes_start n bytes before h
unfinished_starts bytes (in_escape n front escape h) =
    starts_same bytes (front ++ escape) h.spelled (starts_more front escape (quotes_start n front h.before h.in_quotes))

-- ---- to the item, and over its bytes

pub found_first : (limit at b : ℕ) (rest : List ℕ) → is_blank b ≡ false → (b == 59) ≡ false
    → found limit at (b ∷ rest) ≡ found_from limit at 0 start (b ∷ rest)
found_first limit at b rest e k = rw (e, k)

found_item : (limit at : ℕ) (bytes rest : List ℕ) → Starts bytes
    → found limit at (bytes ++ rest) ≡ found_from limit at 0 start (bytes ++ rest)
found_item limit at bytes rest h =
    ap (λ xs. found limit at (xs ++ rest)) h.2 ∙ found_first limit at h.0 (h.1 ++ rest) h.3 h.4
    ∙ ap (λ xs. found_from limit at 0 start (xs ++ rest)) (sym h.2)

-- the item's first bytes are read, and the machine stands behind them
abbrev ReadTo : ℕ → List ℕ → List ℕ → List ℕ → List ℕ → State → Type 0
ReadTo limit text gap bytes rest t = (text ≡ gap ++ (bytes ++ rest)) × IsGap gap × Starts bytes × (through start bytes ≡ on t)
    × (length bytes ≤ limit)

reached : (limit at : ℕ) (text gap bytes rest : List ℕ) (t : State) → ReadTo limit text gap bytes rest t
    → found limit at text ≡ found_from limit (at + length gap) (length bytes) t rest
reached limit at text gap bytes rest t h =
    ap (found limit at) h.0 ∙ found_gap limit at gap (bytes ++ rest) h.1 ∙ found_item limit (at + length gap) bytes rest h.2
    ∙ found_through limit (at + length gap) 0 start t bytes rest h.3 (omega (arith, h.4))
    ∙ found_at limit (at + length gap) t rest (0 + length bytes) (length bytes) (omega arith)

module _ (limit at : ℕ) (text gap bytes : List ℕ) (b : ℕ) (rest : List ℕ) (t : State) (h : ReadTo limit text gap bytes (b ∷ rest) t) where
  -- a byte ends the item
  ends_with_byte : (v : Value) → length bytes < limit → is_behind t b ≡ false → step t b ≡ whole v
      → found limit at text ≡ value v (at + length gap) (at + length gap + length bytes + 1)
  ends_with_byte v l out e =
      reached limit at text gap bytes (b ∷ rest) t h
      ∙ found_next limit (at + length gap) (length bytes) t b rest (has_room limit (length bytes) (not (is_behind t b)) l)
      ∙ ap (found_by limit (at + length gap) (length bytes) t b rest) e
      ∙ ap (λ c. value v (at + length gap) (if c then at + length gap + length bytes else at + length gap + length bytes + 1)) out

  -- the byte behind the item ends it
  ends_before_byte : (v : Value) → is_behind t b ≡ true → step t b ≡ whole v
      → found limit at text ≡ value v (at + length gap) (at + length gap + length bytes)
  ends_before_byte v out e =
      reached limit at text gap bytes (b ∷ rest) t h
      ∙ found_next limit (at + length gap) (length bytes) t b rest
      (and_left (not (is_behind t b)) (nat_le limit (length bytes)) (not_from_true (is_behind t b) out))
      ∙ ap (found_by limit (at + length gap) (length bytes) t b rest) e
      ∙ ap (λ c. value v (at + length gap) (if c then at + length gap + length bytes else at + length gap + length bytes + 1)) out

  -- a byte shows a bad place
  shows_bad : (kind : BadKind) (back : ℕ) → (not (is_behind t b) && nat_le limit (length bytes)) ≡ false → step t b ≡ shown kind back
      → found limit at text ≡ bad kind (at + length gap + length bytes - back)
  shows_bad kind back room e =
      reached limit at text gap bytes (b ∷ rest) t h ∙ found_next limit (at + length gap) (length bytes) t b rest room
      ∙ ap (found_by limit (at + length gap) (length bytes) t b rest) e

bad_there : (kind : BadKind) (x y : ℕ) → x ≡ y → bad kind x ≡ bad kind y
bad_there kind x y e = ap (bad kind) e

-- ---- values

value_there : (v : Value) (a b c d : ℕ) → a ≡ c → b ≡ d → value v a b ≡ value v c d
value_there v a b c d e k = λ i. value v (e i) (k i)

with_last : (text gap own bytes rest : List ℕ) (b : ℕ) → text ≡ gap ++ (own ++ rest) → own ≡ bytes ++ b ∷ []
    → text ≡ gap ++ (bytes ++ b ∷ rest)
with_last text gap own bytes rest b e k = e ∙ ap (λ xs. gap ++ (xs ++ rest)) k ∙ ap (λ xs. gap ++ xs) (append_assoc bytes (b ∷ []) rest)

length_last : (own bytes : List ℕ) (b : ℕ) → own ≡ bytes ++ b ∷ [] → length own ≡ length bytes + 1
length_last own bytes b k = ap length k ∙ length-append bytes (b ∷ [])

module _ (limit at : ℕ) (text gap own : List ℕ) (g : IsGap gap) (l : length own ≤ limit) where
  is_run : (rest : List ℕ) → text ≡ gap ++ (own ++ rest) → IsRun own → rest ≢ [] → Parts own rest
      → found limit at text ≡ value (atom own) (at + length gap) (at + length gap + length own)
  is_run [] e r some parts = absurd (some refl)
  is_run (b ∷ rest) e r some parts =
      ends_before_byte limit at text gap own b rest (running own []) (e, g, run_starts own r, run_through own [] r, l) (atom own)
      (and_from (is_outer_run (run_mode (last 32 own)) []) (is_delimiter b) (outer_run (last 32 own)) (not-false (is_delimiter b) parts.0))
      (run_ends own [] b parts.0 (no_semicolon own b rest parts))

  module _ (rest : List ℕ) (e : text ≡ gap ++ (own ++ rest)) where
    is_quoted : (inner of : List ℕ) → own ≡ 34 ∷ (inner ++ 34 ∷ []) → AreBytes inner of
        → found limit at text ≡ value (atom of) (at + length gap) (at + length gap + length own)
    is_quoted inner of k are =
        let more = length_last own (34 ∷ inner) 34 k in
        ends_with_byte limit at text gap (34 ∷ inner) 34 rest (quoting of []) (
          with_last text gap own (34 ∷ inner) rest 34 e k,
          g,
          (34, inner, refl, refl, refl),
          bytes_through inner of [] [] are,
          omega (arith, l, more),
        ) (atom of) (omega (arith, l, more)) refl refl
        ∙ value_there (atom of) _ _ _ _ refl (omega (arith, more))

    is_list : (inner : List ℕ) (vs : Values) → own ≡ 40 ∷ (inner ++ 41 ∷ []) → SpellAll inner vs → nesting (list vs) ≤ most_lists
        → found limit at text ≡ value (list vs) (at + length gap) (at + length gap + length own)
    is_list inner vs k s room =
        let more = length_last own (40 ∷ inner) 41 k in
        let r = all_stand vs inner [] [] s (omega (arith, room)) in
        ends_with_byte limit at text gap (40 ∷ inner) 41 rest r.0 (
          with_last text gap own (40 ∷ inner) rest 41 e k,
          g,
          (40, inner, refl, refl, refl),
          r.1,
          omega (arith, l, more),
        ) (list (values (listed vs))) (omega (arith, l, more))
        (and_left (is_outer_run r.0.mode r.0.lists) (is_delimiter 41)
        (no_outer_run r.0.mode r.0.lists 0 (settled_length inner r.0 (listed vs ∷ []) r.2)))
        (settled_step inner r.0 (listed vs ∷ []) 41 [] r.2 (seam_delimiter inner 41 [] refl (λ i. absurd (omega (arith, i)))))
        ∙ ap (λ ws. value (list ws) (at + length gap) (at + length gap + length (40 ∷ inner) + 1)) (values_listed vs)
        ∙ value_there (list vs) _ _ _ _ refl (omega (arith, more))

    is_value : (v : Value) → Spells own v → (IsRun own → rest ≢ []) → Ends own rest → nesting v ≤ most_lists
        → found limit at text ≡ value v (at + length gap) (at + length gap + length own)
    is_value (atom of) (inl h) some ends room = is_run rest e h.0 (some h.0) (ends h.0)
        ∙ ap (λ xs. value (atom xs) (at + length gap) (at + length gap + length own)) h.1
    is_value (atom of) (inr h) some ends room = is_quoted h.0 of h.1 h.2
    is_value (list vs) h some ends room = is_list h.0 vs h.1 h.2 room

-- ---- bad places

pub last_of_some : (x y : ℕ) (own : List ℕ) → 0 < length own → last x own ≡ last y own
last_of_some x y [] h = absurd (omega (arith, h))
last_of_some x y (b ∷ own) h = refl

run_hash : (bytes before own front : List ℕ) → bytes ≡ before ++ own → IsRun own → bytes ≡ front ++ 35 ∷ [] → last 32 own ≡ 35
run_hash bytes before own front e r k = last_of_some 32 (last 32 before) own r.some ∙ sym (last_append 32 before own)
    ∙ ap (last 32) (sym e ∙ k) ∙ last_append 32 front (35 ∷ [])

not_behind : {R : Type 0} (o d : Bool) → ((R → ⊥) → o ≡ false) → (R → not d ≡ true) → (o && d) ≡ false
not_behind false d h k = refl
not_behind true false h k = refl
not_behind true true h k = h (λ r. true≢false (sym (k r)))

module _ (limit at : ℕ) (text gap bytes rest : List ℕ) (b : ℕ) (e : text ≡ gap ++ (bytes ++ b ∷ rest)) (g : IsGap gap) where
  is_hash : (n : ℕ) (before own front : List ℕ) → IsInRun n bytes before own → bytes ≡ front ++ 35 ∷ [] → (b ≡ 59) ⊎ (b ≡ 124)
      → length bytes < limit → found limit at text ≡ bad HashBar (at + length gap + length front)
  is_hash n before own front h k is l =
      let r = run_reached n bytes before own h in
      shows_bad limit at text gap bytes b rest (running own r.0) (
        e,
        g,
        unfinished_starts bytes (in_run n before own h),
        r.1,
        omega (arith, l),
      ) HashBar 1 (has_room limit (length bytes) (not (is_behind (running own r.0) b)) l)
      (shows_hash own r.0 b (run_hash bytes before own front h.spelled h.is_run k) is)
      ∙ bad_there HashBar _ _ (omega (arith, ap length k, length-append front (35 ∷ [])))

  is_bad : (kind : BadKind) (behind : ℕ) → Shows limit bytes b kind behind → found limit at text ≡ bad kind (at + length gap + behind)
  is_bad kind behind (stray_close none is l) =
      ap (found limit at) (e ∙ ap (λ xs. gap ++ (xs ++ b ∷ rest)) none ∙ ap (λ c. gap ++ c ∷ rest) is)
      ∙ found_gap limit at gap (41 ∷ rest) g
      ∙ found_next limit (at + length gap) 0 start 41 rest (has_room limit 0 (not (is_behind start 41)) l)
      ∙ bad_there StrayClose _ _ (omega arith)
  is_bad kind behind (too_deep h is l) =
      let r = open_through most_lists bytes h in
      shows_bad limit at text gap bytes b rest r.0 (
        e,
        g,
        open_starts 255 bytes h,
        r.2,
        omega (arith, l),
      ) TooDeep 0 (has_room limit (length bytes) (not (is_behind r.0 b)) l)
      (ap (step r.0) is ∙ settled_step bytes r.0 r.1 40 [] r.3 (seam_delimiter bytes 40 [] refl (λ k. absurd (omega (arith, k))))
      ∙ too_many_lists r.1 (omega (arith, r.4)))
      ∙ bad_there TooDeep _ _ (omega arith)
  is_bad kind behind (hash_bar n before own front h k is l) =
      is_hash n before own front h k (inr is) l
  is_bad kind behind (hash_comment n before own front h k is l) =
      is_hash (suc n) before own front h k (inl is) l
  is_bad kind behind (outer_hash_comment front r k is l) =
      shows_bad limit at text gap bytes b rest (running bytes []) (e, g, run_starts bytes r, run_through bytes [] r, l) HashBar 1
      (and_left _ _ (not_from_true _ (and_from (is_outer_run (run_mode (last 32 bytes)) []) (is_delimiter b) (outer_run (last 32 bytes))
      (ap is_delimiter is))))
      (shows_hash bytes [] b (run_hash bytes [] bytes front refl r k) (inl is))
      ∙ bad_there HashBar _ _ (omega (arith, ap length k, length-append front (35 ∷ [])))
  is_bad kind behind (bad_escape n front escape h no_more no_byte l) =
      let m = escape_mode escape h.begun in let r = escape_reached n bytes front escape h m.0 m.1 in
      shows_bad limit at text gap bytes b rest (at_mode m.0 h.in_quotes.of r.0) (
        e,
        g,
        unfinished_starts bytes (in_escape n front escape h),
        r.1,
        omega (arith, l),
      ) BadEscape (length escape) (has_room limit (length bytes) (not (is_behind (at_mode m.0 h.in_quotes.of r.0) b)) l)
      (go m.0 r.0 (escape_steps m.0 escape h.in_quotes.of r.0 b m.1))
      ∙ bad_there BadEscape _ _ (omega (arith, ap length h.spelled, length-append front escape))
    where
      go : (m : Mode) (lists : List (List Value)) → EscapeStep m escape h.in_quotes.of lists b
          → step (at_mode m h.in_quotes.of lists) b ≡ shown BadEscape (length escape)
      go m lists (inl y) = absurd (no_byte y.0 y.1)
      go m lists (inr (inl y)) = absurd (no_more (mode_begins y.0 (escape ++ b ∷ []) y.1))
      go m lists (inr (inr y)) = y.0
  is_bad kind behind (too_long u plain full) =
      let r = unfinished_stands bytes u in
      reached limit at text gap bytes (b ∷ rest) r.0 (e, g, unfinished_starts bytes u, r.1, omega (arith, full))
      ∙ ap (λ c. if c then bad TooLong (at + length gap + length bytes) else found_by limit (at + length gap) (length bytes) r.0 b rest
      (step r.0 b))
      (and_from _ _ (not_from_false _ (not_behind (is_outer_run r.0.mode r.0.lists) (is_delimiter b) r.2 plain))
      (le-leb limit (length bytes) (omega (arith, full))))
      ∙ bad_there TooLong _ _ (omega (arith, full))

-- ---- what stands first

module _ (limit at : ℕ) (text gap : List ℕ) (g : IsGap gap) where
  is_unfinished : (bytes : List ℕ) → text ≡ gap ++ bytes → IsUnfinished bytes → (IsRun bytes → ⊥) → length bytes ≤ limit
      → found limit at text ≡ unfinished (at + length gap)
  is_unfinished bytes e u other l =
      let r = unfinished_stands bytes u in
      reached limit at text gap bytes [] r.0 (e ∙ ap (λ xs. gap ++ xs) (sym (append-nil bytes)), g, unfinished_starts bytes u, r.1, l)
      ∙ ap (λ c. if c then last_run r.0.atom (at + length gap) else unfinished (at + length gap)) (r.2 other)

  is_last_run : (own : List ℕ) → text ≡ gap ++ own → IsRun own → length own ≤ limit
      → found limit at text ≡ last_run own (at + length gap)
  is_last_run own e r l =
      reached limit at text gap own [] (running own []) (
        e
            ∙ ap (λ xs. gap ++ xs) (sym (append-nil own)),
        g,
        run_starts own r,
        run_through own [] r,
        l,
      )
      ∙ ap (λ c. if c then last_run own (at + length gap) else unfinished (at + length gap)) (outer_run (last 32 own))

pub is_found : (limit at : ℕ) (text : List ℕ) (f : Found) → IsFound limit at text f → found limit at text ≡ f
is_found limit at text nothing (inl h) = ap (found limit at) (sym (append-nil text)) ∙ found_gap limit at text [] h
is_found limit at text nothing (inr h) = ap (found limit at) h.2 ∙ found_gap limit at h.0 (59 ∷ h.1) h.3
    ∙ found_open_comment limit (at + length h.0) h.1 h.4
is_found limit at text (unfinished from) h = is_unfinished limit at text h.0 h.3 h.1 h.2 h.4 h.5 h.6 ∙ ap unfinished (sym h.7)
is_found limit at text (last_run own from) h = is_last_run limit at text h.0 h.2 own h.1 h.3 h.4 ∙ ap (last_run own) (sym h.5)
is_found limit at text (value v from to) h =
    is_value limit at text h.0 h.1 h.4 h.9 h.2 h.3 v h.5 h.6 h.7 h.8 ∙ value_there v _ _ _ _ (sym h.10) (omega (arith, h.10, h.11))
is_found limit at text (bad kind offset) h = is_bad limit at text h.0 h.1 h.2 h.3 h.5 h.6 kind h.4 h.7 ∙ ap (bad kind) (sym h.8)

pub is_found_behind_line : (limit at : ℕ) (text : List ℕ) (f : Found) → IsFoundBehindLine limit at text f
    → found_behind_line limit at text ≡ f
is_found_behind_line limit at text f (inl h) = behind_open_line limit at text h.0 ∙ sym h.1
is_found_behind_line limit at text f (inr h) = ap (found_behind_line limit at) h.2 ∙ behind_whole_line limit at h.0 h.1 h.3
    ∙ is_found limit (at + length h.0 + 1) h.1 f h.4
