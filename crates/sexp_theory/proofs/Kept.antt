-- What the bytes of an item so far are, by the machine's state; and what a byte more makes of them.
use Rattle.std.proofs.Common.{◌≡◌, ◌≢◌, ◌⊎◌, inl, inr, ℕ, ◌+◌, ◌-◌, ◌<◌, ◌≤◌, ◌==◌, List, [], ◌∷◌, ◌++◌, length, Bool, true, false}
use Rattle.std.proofs.Common.{nat_lt, if◌then◌else◌, refl, sym, ap, ◌∙◌, subst, append_assoc, length-append, arith, true≢false}
use Rattle.std.proofs.lemmas.Bool.{eqb-true, eqb-false, eq-eqb, ne_eqb, ltb-true, ltb-false, and_left, and_right, and_from, not-true}
use Rattle.std.proofs.lemmas.Bool.{not-false, not_from_false, cases_eq, cases_Bool, or_from, false≢true}
use Rattle.std.proofs.lemmas.List.{same_from_push}
use Rattle.std.proofs.lemmas.List.Elements.{All-nil, All-cons, All-head, All-push}
use Rattle.std.specs.List.{AllPass}
use Rattle.sexp_theory.specs.Values.{Value, atom, list, values, nesting}
use Rattle.sexp_theory.specs.Signs.{is_blank, is_plain, is_delimiter}
use Rattle.sexp_theory.specs.Spelling.{is_of_line, IsRun, HasNoHashBar, itself, AreBytes, Parts, Spells}
use Rattle.sexp_theory.specs.Places.{most_lists, IsOpen, IsInRun, IsInQuotes, IsInEscape, Shows, stray_close, too_deep, hash_bar}
use Rattle.sexp_theory.specs.Places.{hash_comment, outer_hash_comment, bad_escape}
use Rattle.sexp_theory.specs.Machine.{State, Mode, between, commented, run, hash, quoted, escaped, decimal1, decimal2, hexadecimal0}
use Rattle.sexp_theory.specs.Machine.{hexadecimal1, Step, on, whole, shown, step, step_between, ends_value, closes, opens, run_mode}
use Rattle.sexp_theory.specs.Machine.{is_outer_run, is_behind}
use Rattle.sexp_theory.specs.declared.input.BadKind.{BadKind}
use Rattle.sexp_theory.specs.declared.input.BadKind.TheVariants.{StrayClose, BadEscape, TooDeep, HashBar}
use Rattle.sexp_theory.proofs.Lists.{last, last_append, last_push, split_last}
use Rattle.sexp_theory.proofs.Steps.{standing, commenting, running, quoting, blank_ends, run_ends, shows_hash}
use Rattle.sexp_theory.proofs.Runs.{run_more, ends_with}
use Rattle.sexp_theory.proofs.Quotes.{at_mode}
use Rattle.sexp_theory.proofs.Escapes.{IsEscape, EscapeStep, mode_begins, escape_steps}
use Rattle.sexp_theory.proofs.Inside.{inner_run, outer_run}
use Rattle.sexp_theory.proofs.Found.{last_of_some}
use Rattle.sexp_theory.proofs.Grown.{blank_gap, comment_gap, bytes_append, Opened, opened_is_open, opened_most, push_value, push_gap}
use Rattle.sexp_theory.proofs.Grown.{open_more, EndsWhole, ends_whole, Apart, apart_whole, seam_apart, seam_whole}

-- ---- what the bytes are

abbrev pub InRun : List ℕ → List ℕ → List (List Value) → Type 0
InRun bytes own lists = (before : List ℕ) × (bytes ≡ before ++ own) × Opened before lists × EndsWhole before × IsRun own

abbrev pub InComment : List ℕ → List (List Value) → Type 0
InComment bytes [] = ⊥
InComment bytes (us ∷ ls) = (before words : List ℕ) × (bytes ≡ before ++ 59 ∷ words) × Opened before (us ∷ ls) × AllPass is_of_line words
    × (last 32 before ≢ 35)

abbrev pub InQuotes : List ℕ → List ℕ → List (List Value) → Type 0
InQuotes bytes of lists = (before inner : List ℕ) × (bytes ≡ before ++ 34 ∷ inner) × Opened before lists × AreBytes inner of

abbrev pub InEscape : Mode → List ℕ → List ℕ → List (List Value) → Type 0
InEscape m bytes of lists = (front escape : List ℕ) × (bytes ≡ front ++ escape) × InQuotes front of lists × IsEscape escape m

abbrev pub At : Mode → List ℕ → List ℕ → List (List Value) → Type 0
At between bytes own lists = (own ≡ []) × Opened bytes lists × EndsWhole bytes
At commented bytes own lists = (own ≡ []) × InComment bytes lists
At run bytes own lists = InRun bytes own lists × (last 32 own ≢ 35)
At hash bytes own lists = InRun bytes own lists × (last 32 own ≡ 35)
At quoted bytes of lists = InQuotes bytes of lists
At m bytes of lists = InEscape m bytes of lists

-- the bytes of the item so far are what the state says
abbrev pub Kept : List ℕ → State → Type 0
Kept bytes s = At s.mode bytes s.atom s.lists

pub kept_run : (bytes own : List ℕ) (lists : List (List Value)) → InRun bytes own lists → Kept bytes (running own lists)
kept_run bytes own lists h = go (cases_eq (last 32 own) 35)
  where
    go : (last 32 own ≡ 35) ⊎ (last 32 own ≡ 35 → ⊥) → Kept bytes (running own lists)
    go (inl e) = subst (λ c. At (if c then hash else run) bytes own lists) (sym (eq-eqb (last 32 own) 35 e)) (h, e)
    go (inr n) = subst (λ c. At (if c then hash else run) bytes own lists) (sym (ne_eqb (last 32 own) 35 n)) (h, n)

pub kept_escape : (m : Mode) (bytes of : List ℕ) (lists : List (List Value)) → InEscape m bytes of lists → At m bytes of lists
kept_escape escaped bytes of lists h = h
kept_escape (decimal1 n) bytes of lists h = h
kept_escape (decimal2 n) bytes of lists h = h
kept_escape hexadecimal0 bytes of lists h = h
kept_escape (hexadecimal1 n) bytes of lists h = h
kept_escape other bytes of lists h = absurd h.4

-- ---- in the words of the format

pub run_words : (bytes own : List ℕ) (lists : List (List Value)) (h : InRun bytes own lists) → IsInRun (length lists) bytes h.0 own
run_words bytes own lists h = record {
  spelled = h.1;
  opened = opened_is_open lists h.0 h.2;
  is_run = h.4;
  whole_run = λ front b e. sym (ap (λ xs. is_plain (last 32 xs)) e ∙ ap is_plain (last_push 32 front b)) ∙ h.3;
}

pub quotes_words : (bytes of : List ℕ) (lists : List (List Value)) (h : InQuotes bytes of lists) → IsInQuotes (length lists) bytes h.0
quotes_words bytes of lists h = record { inner = h.1; of = of; spelled = h.2; opened = opened_is_open lists h.0 h.3; are_bytes = h.4 }

pub escape_words : (m : Mode) (bytes of : List ℕ) (lists : List (List Value)) (h : InEscape m bytes of lists)
    → IsInEscape (length lists) bytes h.0 h.1
escape_words m bytes of lists h = record {
  before = h.3.0;
  spelled = h.2;
  in_quotes = quotes_words h.0 of lists h.3;
  begun = mode_begins m h.1 h.4;
}

-- ---- what a byte makes of them

-- the value's bytes: those before the byte, or with it
abbrev pub WholeBy : Bool → List ℕ → ℕ → Value → Type 0
WholeBy true bytes b v = IsRun bytes × Spells bytes v × Parts bytes (b ∷ [])
WholeBy false bytes b v = Spells (bytes ++ b ∷ []) v × (IsRun (bytes ++ b ∷ []) → ⊥)

abbrev pub Good : List ℕ → ℕ → Bool → Step → Type 0
Good bytes b behind (on t) = (behind ≡ false) × Kept (bytes ++ b ∷ []) t
Good bytes b behind (whole v) = (nesting v ≤ most_lists) × WholeBy behind bytes b v
Good bytes b behind (shown kind back) =
    (back ≤ length bytes) × ((limit : ℕ) → length bytes ≤ limit → (behind ≡ false → length bytes < limit)
    → Shows limit bytes b kind (length bytes - back))

by_test : (P : Step → Type 0) (c : Bool) (x y : Step) → (c ≡ true → P x) → (c ≡ false → P y) → P (if c then x else y)
by_test P true x y h k = h refl
by_test P false x y h k = k refl

shows_at : (limit : ℕ) (bytes : List ℕ) (b : ℕ) (kind : BadKind) (m n : ℕ) → m ≡ n → Shows limit bytes b kind m → Shows limit bytes b kind n
shows_at limit bytes b kind m n e h = subst (λ k. Shows limit bytes b kind k) e h

-- the byte is the last of a value, which begins with a delimiter `first` behind bytes that these lists are open after
record LastOf (lists : List (List Value)) (bytes : List ℕ) (b : ℕ) (v : Value) : Type 0 where
  before : List ℕ
  first : ℕ
  rest : List ℕ
  spelled : bytes ++ b ∷ [] ≡ before ++ first ∷ rest
  opened : Opened before lists
  spells : Spells (first ∷ rest) v
  no_run : is_plain first ≡ false
  apart : Apart before first
  room : nesting v + length lists ≤ most_lists
  ends : is_plain b ≡ false

-- a value that ends with the byte
value_good : (lists : List (List Value)) (bytes : List ℕ) (b : ℕ) (v : Value) → LastOf lists bytes b v
    → Good bytes b false (ends_value v lists)
value_good [] bytes b v h =
    let same : bytes ++ b ∷ [] ≡ h.first ∷ h.rest = h.spelled ∙ ap (λ xs. xs ++ h.first ∷ h.rest) h.opened in (
      omega (arith, h.room),
      (
        subst (λ xs. Spells xs v) (sym same) h.spells,
        λ r. true≢false (sym (All-head (λ d. is_plain d ≡ true) h.first h.rest (subst (AllPass is_plain) same r.plain)) ∙ h.no_run),
      ),
    )
value_good (us ∷ ls) bytes b v h = (
  refl,
  (
    refl,
    subst (λ xs. Opened xs ((us ++ v ∷ []) ∷ ls)) (sym h.spelled)
        (push_value h.before (h.first ∷ h.rest) us ls h.opened (seam_apart h.before h.first h.rest h.apart) v h.spells
        (omega (arith, h.room))),
    ends_whole bytes b h.ends,
  ),
)

-- ---- between values

-- an item begins with no blank and no comment
abbrev pub First : List ℕ → ℕ → Type 0
First bytes b = bytes ≡ [] → (is_blank b ≡ false) × (b ≢ 59)

blank_good : (lists : List (List Value)) (bytes : List ℕ) (b : ℕ) → Opened bytes lists → Apart bytes b → First bytes b → is_blank b ≡ true
    → is_plain b ≡ false → Good bytes b false (on (standing lists))
blank_good [] bytes b o a f e p = absurd (true≢false (sym e ∙ (f o).0))
blank_good (us ∷ ls) bytes b o a f e p = (
  refl,
  (refl, push_gap bytes (b ∷ []) us ls o (seam_apart bytes b [] a) (blank_gap b e), ends_whole bytes b p),
)

comment_good : (lists : List (List Value)) (bytes : List ℕ) (b : ℕ) → Opened bytes lists → Apart bytes b → First bytes b → b ≡ 59
    → Good bytes b false (on (commenting lists))
comment_good [] bytes b o a f e = absurd ((f o).1 e)
comment_good (us ∷ ls) bytes b o a f e = (
  refl,
  (refl, (bytes, [], ap (λ c. bytes ++ c ∷ []) e, o, All-nil (λ c. is_of_line c ≡ true), a.1 e)),
)

open_good : (lists : List (List Value)) (bytes : List ℕ) (b : ℕ) → Opened bytes lists → b ≡ 40 → Good bytes b false (opens lists)
open_good lists bytes b o e = by_test (Good bytes b false) (nat_lt (length lists) most_lists) (on (standing ([] ∷ lists))) (shown TooDeep 0)
    (λ k. (
      refl,
      (
        refl,
        subst (λ c. Opened (bytes ++ c ∷ []) ([] ∷ lists)) (sym e)
            (open_more bytes lists o (ltb-true (length lists) most_lists k)),
        ends_whole bytes b (ap is_plain e),
      ),
    ))
    (λ k. (
      omega arith,
      λ limit l room. shows_at limit bytes b TooDeep (length bytes) (length bytes - 0) (omega arith)
          (too_deep (full k) e (room refl)),
    ))
  where
    full : nat_lt (length lists) most_lists ≡ false → IsOpen most_lists bytes
    full k =
        let all : length lists ≡ most_lists = omega (arith, opened_most lists bytes o, ltb-false (length lists) most_lists k) in
        subst (λ n. IsOpen n bytes) all (opened_is_open lists bytes o)

close_good : (lists : List (List Value)) (bytes : List ℕ) (b : ℕ) → Opened bytes lists → b ≡ 41 → Good bytes b false (closes lists)
close_good [] bytes b o e = (
  omega arith,
  λ limit l room. shows_at limit bytes b StrayClose 0 (length bytes - 0) (omega (arith, ap length o))
      (stray_close o e (omega (arith, room refl))),
)
close_good (us ∷ ls) bytes b o e =
    value_good ls bytes b (list (values us)) (record {
      before = o.0;
      first = 40;
      rest = o.1 ++ 41 ∷ [];
      spelled = ap (λ xs. xs ++ b ∷ []) o.2 ∙ append_assoc o.0 (40 ∷ o.1) (b ∷ []) ∙ ap (λ c. o.0 ++ 40 ∷ (o.1 ++ c ∷ [])) e;
      opened = o.3;
      spells = (o.1, refl, o.4);
      no_run = refl;
      apart = ((λ p. absurd (false≢true p)), (λ k. absurd (omega (arith, k))));
      room = omega (arith, o.5);
      ends = ap is_plain e;
    })

quote_good : (lists : List (List Value)) (bytes : List ℕ) (b : ℕ) → Opened bytes lists → b ≡ 34 → Good bytes b false (on (quoting [] lists))
quote_good lists bytes b o e = (refl, (bytes, [], ap (λ c. bytes ++ c ∷ []) e, o, refl))

one_run : (b : ℕ) → is_plain b ≡ true → IsRun (b ∷ [])
one_run b p = record {
  some = omega arith;
  plain = All-cons (λ c. is_plain c ≡ true) b [] p (All-nil (λ c. is_plain c ≡ true));
  no_hash_bar = λ before after e. omega (arith, ap length e, length-append before (35 ∷ 124 ∷ after));
}

plain_good : (lists : List (List Value)) (bytes : List ℕ) (b : ℕ) → Opened bytes lists → Apart bytes b → is_plain b ≡ true
    → Good bytes b false (on (running (b ∷ []) lists))
plain_good lists bytes b o a p = (refl, kept_run (bytes ++ b ∷ []) (b ∷ []) lists (bytes, refl, o, a.0 p, one_run b p))

pub between_good : (lists : List (List Value)) (bytes : List ℕ) (b : ℕ) → Opened bytes lists → Apart bytes b → First bytes b
    → Good bytes b false (step_between lists b)
between_good lists bytes b o a f =
    by_test P (is_blank b) _ _ (λ e. blank_good lists bytes b o a f e (blank_ends b e)) λ n1.
    by_test P (b == 59) _ _ (λ e. comment_good lists bytes b o a f (eqb-true b 59 e)) λ n2.
    by_test P (b == 40) _ _ (λ e. open_good lists bytes b o (eqb-true b 40 e)) λ n3.
    by_test P (b == 41) _ _ (λ e. close_good lists bytes b o (eqb-true b 41 e)) λ n4.
    by_test P (b == 34) _ _ (λ e. quote_good lists bytes b o (eqb-true b 34 e)) λ n5.
    plain_good lists bytes b o a (not_from_false _ (or_from _ _ (or_from _ _ (or_from _ _ (or_from _ _ n1 n5) n3) n4) n2))
  where
    P : Step → Type 0
    P r = Good bytes b false r

-- ---- in a run

own_hash : (bytes own : List ℕ) (lists : List (List Value)) (h : InRun bytes own lists) → last 32 bytes ≡ last 32 own
own_hash bytes own lists h = ap (last 32) h.1 ∙ last_append 32 h.0 own ∙ last_of_some (last 32 h.0) 32 own h.4.some

bytes_hash : (bytes own : List ℕ) (lists : List (List Value)) (h : InRun bytes own lists) → last 32 own ≡ 35 → (front : List ℕ)
    × (bytes ≡ front ++ 35 ∷ [])
bytes_hash bytes own lists h e = ends_with bytes 35 (own_hash bytes own lists h ∙ e) (λ k. absurd (omega (arith, k)))

pushed_bar : (own x after : List ℕ) (b : ℕ) → own ++ b ∷ [] ≡ x ++ 35 ∷ 124 ∷ after → (last 32 own ≡ 35 → b ≢ 124) → HasNoHashBar own → ⊥
pushed_bar own x [] b e k n =
    let r = same_from_push own (x ++ 35 ∷ []) b 124 (e ∙ sym (append_assoc x (35 ∷ []) (124 ∷ []))) in
    k (ap (last 32) r.0 ∙ last_push 32 x 35) r.1
pushed_bar own x (c ∷ after) b e k n =
    let s = split_last c after in
    let r = same_from_push own (x ++ 35 ∷ 124 ∷ s.0) b (last c after) (e ∙ ap (λ xs. x ++ 35 ∷ 124 ∷ xs) s.1
    ∙ sym (append_assoc x (35 ∷ 124 ∷ s.0) (last c after ∷ []))) in
    n x s.0 r.0

more_run : (own : List ℕ) (b : ℕ) → IsRun own → is_plain b ≡ true → (last 32 own ≡ 35 → b ≢ 124) → IsRun (own ++ b ∷ [])
more_run own b r p k = record {
  some = omega (arith, length-append own (b ∷ []));
  plain = All-push (λ c. is_plain c ≡ true) own b r.plain p;
  no_hash_bar = λ x after e. pushed_bar own x after b e k r.no_hash_bar;
}

in_run_more : (bytes own : List ℕ) (lists : List (List Value)) (b : ℕ) → InRun bytes own lists → is_plain b ≡ true
    → (last 32 own ≡ 35 → b ≢ 124) → InRun (bytes ++ b ∷ []) (own ++ b ∷ []) lists
in_run_more bytes own lists b h p k = (h.0, ap (λ xs. xs ++ b ∷ []) h.1 ∙ append_assoc h.0 own (b ∷ []), h.2, h.3, more_run own b h.4 p k)

-- what is said of the step of a state
abbrev pub GoodStep : List ℕ → ℕ → State → Type 0
GoodStep bytes b s = Good bytes b (is_behind s b) (step s b)

good_as : (bytes : List ℕ) (b : ℕ) (s : State) (behind : Bool) (r : Step) → is_behind s b ≡ behind → step s b ≡ r → Good bytes b behind r
    → GoodStep bytes b s
good_as bytes b s behind r e k h = subst (λ c. Good bytes b c (step s b)) (sym e) (subst (Good bytes b behind) (sym k) h)

plain_inside : (own : List ℕ) (lists : List (List Value)) (b : ℕ) → is_plain b ≡ true → is_behind (running own lists) b ≡ false
plain_inside own lists b p = and_right (is_outer_run (run_mode (last 32 own)) lists) (is_delimiter b) (not-true (is_delimiter b) p)

list_inside : (own : List ℕ) (us : List Value) (ls : List (List Value)) (b : ℕ) → is_behind (running own (us ∷ ls)) b ≡ false
list_inside own us ls b = and_left (is_outer_run (run_mode (last 32 own)) (us ∷ ls)) (is_delimiter b)
    (inner_run (run_mode (last 32 own)) us ls)

delimiter_behind : (own : List ℕ) (b : ℕ) → is_plain b ≡ false → is_behind (running own []) b ≡ true
delimiter_behind own b p = and_from (is_outer_run (run_mode (last 32 own)) []) (is_delimiter b) (outer_run (last 32 own))
    (not-false (is_delimiter b) p)

hash_shown : (bytes : List ℕ) (b : ℕ) (behind : Bool) (front : List ℕ) → bytes ≡ front ++ 35 ∷ []
    → ((limit : ℕ) → length bytes ≤ limit → (behind ≡ false → length bytes < limit) → Shows limit bytes b HashBar (length front))
    → Good bytes b behind (shown HashBar 1)
hash_shown bytes b behind front e h =
    let n : length bytes ≡ length front + 1 = ap length e ∙ length-append front (35 ∷ []) in
    (omega (arith, n), λ limit l room. shows_at limit bytes b HashBar (length front) (length bytes - 1) (omega (arith, n)) (h limit l room))

run_on_good : (bytes own : List ℕ) (lists : List (List Value)) (b : ℕ) → InRun bytes own lists → is_plain b ≡ true → (b ≡ 124)
    ⊎ (b ≡ 124 → ⊥) → (last 32 own ≡ 35) ⊎ (last 32 own ≡ 35 → ⊥)
    → GoodStep bytes b (running own lists)
run_on_good bytes own lists b h p (inl e) (inl k) =
    let r = bytes_hash bytes own lists h k in
    good_as bytes b (running own lists) false (shown HashBar 1) (plain_inside own lists b p) (shows_hash own lists b k (inr e))
    (hash_shown bytes b false r.0 r.1 (λ limit l room. hash_bar (length lists) h.0 own r.0 (run_words bytes own lists h) r.1 e (room refl)))
run_on_good bytes own lists b h p (inl e) (inr n) =
    good_as bytes b (running own lists) false (on (running (own ++ b ∷ []) lists)) (plain_inside own lists b p)
    (run_more own lists b p (λ k. absurd (n k)))
    (refl, kept_run (bytes ++ b ∷ []) (own ++ b ∷ []) lists (in_run_more bytes own lists b h p (λ k. absurd (n k))))
run_on_good bytes own lists b h p (inr n) k =
    good_as bytes b (running own lists) false (on (running (own ++ b ∷ []) lists)) (plain_inside own lists b p)
    (run_more own lists b p (λ i. n))
    (refl, kept_run (bytes ++ b ∷ []) (own ++ b ∷ []) lists (in_run_more bytes own lists b h p (λ i. n)))

hash_comment_good : (bytes own : List ℕ) (lists : List (List Value)) (b : ℕ) → InRun bytes own lists → last 32 own ≡ 35 → b ≡ 59
    → GoodStep bytes b (running own lists)
hash_comment_good bytes own [] b h k e =
    let r = bytes_hash bytes own [] h k in
    let same : bytes ≡ own = h.1 ∙ ap (λ xs. xs ++ own) h.2 in
    good_as bytes b (running own []) true (shown HashBar 1) (delimiter_behind own b (ap is_plain e)) (shows_hash own [] b k (inl e))
    (hash_shown bytes b true r.0 r.1 (λ limit l room. outer_hash_comment r.0 (subst IsRun (sym same) h.4) r.1 e l))
hash_comment_good bytes own (us ∷ ls) b h k e =
    let r = bytes_hash bytes own (us ∷ ls) h k in
    good_as bytes b (running own (us ∷ ls)) false (shown HashBar 1) (list_inside own us ls b) (shows_hash own (us ∷ ls) b k (inl e))
    (hash_shown bytes b false r.0 r.1 (λ limit l room.
    hash_comment (length ls) h.0 own r.0 (run_words bytes own (us ∷ ls) h) r.1 e (room refl)))

run_ends_good : (bytes own : List ℕ) (lists : List (List Value)) (b : ℕ) → InRun bytes own lists → is_plain b ≡ false
    → (last 32 own ≡ 35 → b ≢ 59) → GoodStep bytes b (running own lists)
run_ends_good bytes own [] b h p n =
    let same : bytes ≡ own = h.1 ∙ ap (λ xs. xs ++ own) h.2 in
    let r : IsRun bytes = subst IsRun (sym same) h.4 in
    good_as bytes b (running own []) true (whole (atom own)) (delimiter_behind own b p) (run_ends own [] b p n)
    (omega arith, (r, inl (r, same), (p, λ x k. n (sym (own_hash bytes own [] h) ∙ ap (last 32) k ∙ last_push 32 x 35))))
run_ends_good bytes own (us ∷ ls) b h p n =
    good_as bytes b (running own (us ∷ ls)) false (step_between ((us ++ atom own ∷ []) ∷ ls) b) (list_inside own us ls b)
    (run_ends own (us ∷ ls) b p n)
    (between_good ((us ++ atom own ∷ []) ∷ ls) bytes b
    (subst (λ xs. Opened xs ((us ++ atom own ∷ []) ∷ ls)) (sym h.1)
    (push_value h.0 own us ls h.2 (seam_whole h.0 own h.3) (atom own) (inl (h.4, refl)) (omega (arith, h.2.5))))
    ((λ q. absurd (true≢false (sym q ∙ p))), (λ e k. n (sym (own_hash bytes own (us ∷ ls) h) ∙ k) e))
    (λ none. absurd (omega (arith, ap length (sym h.1 ∙ none), length-append h.0 own, h.4.some))))

pub run_good : (bytes own : List ℕ) (lists : List (List Value)) (b : ℕ) → InRun bytes own lists → GoodStep bytes b (running own lists)
run_good bytes own lists b h = go (cases_Bool (is_plain b))
  where
    ends : is_plain b ≡ false → (b ≡ 59) ⊎ (b ≡ 59 → ⊥) → (last 32 own ≡ 35) ⊎ (last 32 own ≡ 35 → ⊥) → GoodStep bytes b (running own lists)
    ends p (inl e) (inl k) = hash_comment_good bytes own lists b h k e
    ends p (inl e) (inr n) = run_ends_good bytes own lists b h p (λ k. absurd (n k))
    ends p (inr n) k = run_ends_good bytes own lists b h p (λ i. n)

    go : (is_plain b ≡ true) ⊎ (is_plain b ≡ false) → GoodStep bytes b (running own lists)
    go (inl p) = run_on_good bytes own lists b h p (cases_eq b 124) (cases_eq (last 32 own) 35)
    go (inr p) = ends p (cases_eq b 59) (cases_eq (last 32 own) 35)

-- ---- in a comment and between quotes

pub line_good : (bytes own : List ℕ) (lists : List (List Value)) (b : ℕ) → own ≡ [] → InComment bytes lists
    → GoodStep bytes b (at_mode commented own lists)
line_good bytes own [] b none h = absurd h
line_good bytes own (us ∷ ls) b none h =
    good_as bytes b (at_mode commented own (us ∷ ls)) false (on (at_mode (if b == 10 then between else commented) own (us ∷ ls))) refl
    refl (refl, go (cases_eq b 10))
  where
    ended : b ≡ 10 → At between (bytes ++ b ∷ []) own (us ∷ ls)
    ended e =
        let same : bytes ++ b ∷ [] ≡ h.0 ++ 59 ∷ (h.1 ++ 10 ∷ []) = ap (λ xs. xs ++ b ∷ []) h.2 ∙ append_assoc h.0 (59 ∷ h.1) (b ∷ [])
        ∙ ap (λ c. h.0 ++ 59 ∷ (h.1 ++ c ∷ [])) e in (
          none,
          subst (λ xs. Opened xs (us ∷ ls)) (sym same)
              (push_gap h.0 (59 ∷ (h.1 ++ 10 ∷ [])) us ls h.3
              (seam_apart h.0 59 (h.1 ++ 10 ∷ []) ((λ p. absurd (false≢true p)), (λ i. h.5))) (comment_gap h.1 h.4)),
          ends_whole bytes b (ap is_plain e),
        )

    longer : (b ≡ 10 → ⊥) → At commented (bytes ++ b ∷ []) own (us ∷ ls)
    longer n = (
      none,
      (
        h.0,
        h.1 ++ b ∷ [],
        ap (λ xs. xs ++ b ∷ []) h.2 ∙ append_assoc h.0 (59 ∷ h.1) (b ∷ []),
        h.3,
        All-push (λ c. is_of_line c ≡ true) h.1 b h.4 (not_from_false _ (ne_eqb b 10 n)),
        h.5,
      ),
    )

    go : (b ≡ 10) ⊎ (b ≡ 10 → ⊥) → At (if b == 10 then between else commented) (bytes ++ b ∷ []) own (us ∷ ls)
    go (inl e) = subst (λ c. At (if c then between else commented) (bytes ++ b ∷ []) own (us ∷ ls)) (sym (eq-eqb b 10 e)) (ended e)
    go (inr n) = subst (λ c. At (if c then between else commented) (bytes ++ b ∷ []) own (us ∷ ls)) (sym (ne_eqb b 10 n)) (longer n)

quotes_room : (bytes of : List ℕ) (lists : List (List Value)) → InQuotes bytes of lists → length lists ≤ most_lists
quotes_room bytes of lists h = opened_most lists h.0 h.3

pub quoted_good : (bytes of : List ℕ) (lists : List (List Value)) (b : ℕ) → InQuotes bytes of lists → GoodStep bytes b (quoting of lists)
quoted_good bytes of lists b h =
    by_test P (b == 34) _ _ ended λ n.
    by_test P (b == 92) _ _ (λ e. (refl, (bytes, 92 ∷ [], ap (λ c. bytes ++ c ∷ []) (eqb-true b 92 e), h, refl))) λ k. (
      refl,
      (
        h.0,
        h.1 ++ b ∷ [],
        ap (λ xs. xs ++ b ∷ []) h.2
            ∙ append_assoc h.0 (34 ∷ h.1) (b ∷ []),
        h.3,
        bytes_append h.1 (b ∷ []) of b h.4
            (itself refl (eqb-false b 34 n) (eqb-false b 92 k)),
      ),
    )
  where
    P : Step → Type 0
    P r = Good bytes b false r

    ended : (b == 34) ≡ true → P (ends_value (atom of) lists)
    ended t =
        let e = eqb-true b 34 t in
        value_good lists bytes b (atom of) (record {
          before = h.0;
          first = 34;
          rest = h.1 ++ 34 ∷ [];
          spelled = ap (λ xs. xs ++ b ∷ []) h.2 ∙ append_assoc h.0 (34 ∷ h.1) (b ∷ []) ∙ ap (λ c. h.0 ++ 34 ∷ (h.1 ++ c ∷ [])) e;
          opened = h.3;
          spells = inr (h.1, refl, h.4);
          no_run = refl;
          apart = ((λ p. absurd (false≢true p)), (λ k. absurd (omega (arith, k))));
          room = omega (arith, quotes_room bytes of lists h);
          ends = ap is_plain e;
        })

pub escape_good : (m : Mode) (bytes of : List ℕ) (lists : List (List Value)) (b : ℕ) → is_behind (at_mode m of lists) b ≡ false
    → InEscape m bytes of lists → GoodStep bytes b (at_mode m of lists)
escape_good m bytes of lists b out h = go (escape_steps m h.1 of lists b h.4)
  where
    longer : bytes ++ b ∷ [] ≡ h.0 ++ (h.1 ++ b ∷ [])
    longer = ap (λ xs. xs ++ b ∷ []) h.2 ∙ append_assoc h.0 h.1 (b ∷ [])

    go : EscapeStep m h.1 of lists b → GoodStep bytes b (at_mode m of lists)
    go (inl y) = good_as bytes b (at_mode m of lists) false (on (quoting (of ++ y.0 ∷ []) lists)) out y.2 (
      refl,
      (
        h.3.0,
        h.3.1 ++ (h.1 ++ b ∷ []),
        longer ∙ ap (λ xs. xs ++ (h.1 ++ b ∷ [])) h.3.2
            ∙ append_assoc h.3.0 (34 ∷ h.3.1) (h.1 ++ b ∷ []),
        h.3.3,
        bytes_append h.3.1 (h.1 ++ b ∷ []) of y.0 h.3.4 y.1,
      ),
    )
    go (inr (inl y)) = good_as bytes b (at_mode m of lists) false (on (at_mode y.0 of lists)) out y.2
        (refl, kept_escape y.0 (bytes ++ b ∷ []) of lists (h.0, h.1 ++ b ∷ [], longer, h.3, y.1))
    go (inr (inr y)) = good_as bytes b (at_mode m of lists) false (shown BadEscape (length h.1)) out y.0 (
      omega (arith, ap length h.2, length-append h.0 h.1),
      λ limit l room. shows_at limit bytes b BadEscape (length h.0) (length bytes - length h.1)
          (omega (arith, ap length h.2, length-append h.0 h.1))
          (bad_escape (length lists) h.0 h.1 (escape_words m bytes of lists h) y.1 y.2 (room refl)),
    )

-- ---- any state

at_run : (bytes own : List ℕ) (lists : List (List Value)) (b : ℕ) (m : Mode) → run_mode (last 32 own) ≡ m → InRun bytes own lists
    → GoodStep bytes b (at_mode m own lists)
at_run bytes own lists b m e h = subst (λ n. GoodStep bytes b (at_mode n own lists)) e (run_good bytes own lists b h)

good_at : (m : Mode) (bytes own : List ℕ) (lists : List (List Value)) (b : ℕ) → At m bytes own lists → First bytes b
    → GoodStep bytes b (at_mode m own lists)
good_at between bytes own lists b h f = between_good lists bytes b h.1 (apart_whole bytes b h.2) f
good_at commented bytes own lists b h f = line_good bytes own lists b h.0 h.1
good_at run bytes own lists b h f = at_run bytes own lists b run (ap (λ c. if c then hash else run) (ne_eqb (last 32 own) 35 h.1)) h.0
good_at hash bytes own lists b h f = at_run bytes own lists b hash (ap (λ c. if c then hash else run) (eq-eqb (last 32 own) 35 h.1)) h.0
good_at quoted bytes own lists b h f = quoted_good bytes own lists b h
good_at escaped bytes own lists b h f = escape_good escaped bytes own lists b refl h
good_at (decimal1 n) bytes own lists b h f = escape_good (decimal1 n) bytes own lists b refl h
good_at (decimal2 n) bytes own lists b h f = escape_good (decimal2 n) bytes own lists b refl h
good_at hexadecimal0 bytes own lists b h f = escape_good hexadecimal0 bytes own lists b refl h
good_at (hexadecimal1 n) bytes own lists b h f = escape_good (hexadecimal1 n) bytes own lists b refl h

pub good : (bytes : List ℕ) (s : State) (b : ℕ) → Kept bytes s → First bytes b → GoodStep bytes b s
good bytes s b h f = good_at s.mode bytes s.atom s.lists b h f
