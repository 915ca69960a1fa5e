-- The machine over the first bytes of an item that isn't ended.
use Rattle.std.proofs.Common.{◌≡◌, ◌≢◌, inl, inr, ℕ, zero, suc, ◌==◌, List, [], ◌∷◌, ◌++◌, length, Bool, true, false, if◌then◌else◌, refl}
use Rattle.std.proofs.Common.{sym, ap, ◌∙◌, subst, append_assoc, arith, true≢false}
use Rattle.std.proofs.lemmas.List.Elements.{All-head, All-tail}
use Rattle.std.specs.List.{AllPass}
use Rattle.sexp_theory.specs.Values.{Value}
use Rattle.sexp_theory.specs.Signs.{is_plain}
use Rattle.sexp_theory.specs.Spelling.{IsRun}
use Rattle.sexp_theory.specs.Places.{IsInRun, IsInComment, IsInQuotes, IsInEscape, IsUnfinished, in_list, in_comment, in_run, in_quotes}
use Rattle.sexp_theory.specs.Places.{in_escape}
use Rattle.sexp_theory.specs.Machine.{State, Mode, between, commented, run, hash, quoted, escaped, decimal1, decimal2, hexadecimal0}
use Rattle.sexp_theory.specs.Machine.{hexadecimal1, on, start, run_mode, is_outer_run}
use Rattle.sexp_theory.proofs.Lists.{last, split_last}
use Rattle.sexp_theory.proofs.Walks.{through, through_step, through_append}
use Rattle.sexp_theory.proofs.Steps.{standing, commenting, running, quoting}
use Rattle.sexp_theory.proofs.Runs.{run_through}
use Rattle.sexp_theory.proofs.Quotes.{bytes_through, at_mode}
use Rattle.sexp_theory.proofs.Gaps.{words_through}
use Rattle.sexp_theory.proofs.Spelled.{Seam, Settled, settled_step, seam_delimiter, open_through}
use Rattle.sexp_theory.proofs.Escapes.{IsEscape, escape_mode, escape_through}

last_plain : (b : ℕ) (bytes : List ℕ) → AllPass is_plain (b ∷ bytes) → is_plain (last b bytes) ≡ true
last_plain b [] h = All-head (λ c. is_plain c ≡ true) b [] h
last_plain b (c ∷ bytes) h = last_plain c bytes (All-tail (λ d. is_plain d ≡ true) b (c ∷ bytes) h)

-- a run ends with a byte of a run
pub run_last : (other : ℕ) (bytes : List ℕ) → IsRun bytes → is_plain (last other bytes) ≡ true
run_last other [] r = absurd (omega (arith, r.some))
run_last other (b ∷ bytes) r = last_plain b bytes r.plain

run_split : (bytes : List ℕ) → IsRun bytes → (front : List ℕ) × (b : ℕ) × (bytes ≡ front ++ b ∷ []) × (is_plain b ≡ true)
run_split [] r = absurd (omega (arith, r.some))
run_split (b ∷ bytes) r = let s = split_last b bytes in (s.0, last b bytes, s.1, last_plain b bytes r.plain)

settled_whole : (before : List ℕ) (t : State) (lists : List (List Value))
    → ((front : List ℕ) (b : ℕ) → before ≡ front ++ b ∷ [] → is_plain b ≡ false) → Settled before t lists → t ≡ standing lists
settled_whole before t lists h (inl e) = e
settled_whole before t lists h (inr s) =
    let r = run_split s.1 s.5 in
    absurd (true≢false (sym r.3 ∙ h (s.0 ++ r.0) r.1 (s.4 ∙ ap (λ xs. s.0 ++ xs) r.2 ∙ sym (append_assoc s.0 r.0 (r.1 ∷ [])))))

-- the machine comes from the start over the bytes to a state in which so many lists are open
abbrev pub Reaches : List ℕ → ℕ → (List (List Value) → State) → Type 0
Reaches bytes n state = (lists : List (List Value)) × (through start bytes ≡ on (state lists)) × (length lists ≡ n)

pub run_reached : (n : ℕ) (bytes before own : List ℕ) → IsInRun n bytes before own → Reaches bytes n (λ lists. running own lists)
run_reached n bytes before own h =
    let r = open_through n before h.opened in (
      r.1,
      ap (through start) h.spelled ∙ through_append start r.0 before own r.2
          ∙ ap (λ t. through t own) (settled_whole before r.0 r.1 h.whole_run r.3) ∙ run_through own r.1 h.is_run,
      r.4,
    )

seam_comment : (before words : List ℕ) → ((front : List ℕ) → before ≢ front ++ 35 ∷ []) → Seam before (59 ∷ words)
seam_comment before words h = λ front own e r. (
  refl,
  λ x k. absurd (h (front ++ x) (e ∙ ap (λ xs. front ++ xs) k ∙ sym (append_assoc front x (35 ∷ [])))),
)

pub comment_reached : (n : ℕ) (bytes : List ℕ) → IsInComment n bytes → Reaches bytes n (λ lists. commenting lists)
comment_reached n bytes h =
    let r = open_through n h.before h.opened in (
      r.1,
      ap (through start) h.spelled ∙ through_append start r.0 h.before (59 ∷ h.words) r.2
          ∙ through_step r.0 (commenting r.1) 59 h.words
          (settled_step h.before r.0 r.1 59 h.words r.3 (seam_comment h.before h.words h.no_hash))
          ∙ words_through h.words r.1 h.one_line,
      r.4,
    )

pub quotes_reached : (n : ℕ) (bytes before : List ℕ) (h : IsInQuotes n bytes before) → Reaches bytes n (λ lists. quoting h.of lists)
quotes_reached n bytes before h =
    let r = open_through n before h.opened in (
      r.1,
      ap (through start) h.spelled ∙ through_append start r.0 before (34 ∷ h.inner) r.2
          ∙ through_step r.0 (quoting [] r.1) 34 h.inner
          (settled_step before r.0 r.1 34 h.inner r.3 (seam_delimiter before 34 h.inner refl (λ k. absurd (omega (arith, k)))))
          ∙ bytes_through h.inner h.of [] r.1 h.are_bytes,
      r.4,
    )

pub escape_reached : (n : ℕ) (bytes front escape : List ℕ) (h : IsInEscape n bytes front escape) (m : Mode) → IsEscape escape m
    → Reaches bytes n (λ lists. at_mode m h.in_quotes.of lists)
escape_reached n bytes front escape h m k =
    let r = quotes_reached n front h.before h.in_quotes in (
      r.0,
      ap (through start) h.spelled ∙ through_append start (quoting h.in_quotes.of r.0) front escape r.1
          ∙ escape_through m escape h.in_quotes.of r.0 k,
      r.2,
    )

-- ---- which of them are runs outside of lists

pub inner_run : (m : Mode) (us : List Value) (ls : List (List Value)) → is_outer_run m (us ∷ ls) ≡ false
inner_run between us ls = refl
inner_run commented us ls = refl
inner_run run us ls = refl
inner_run hash us ls = refl
inner_run quoted us ls = refl
inner_run other us ls = refl

pub outer_run : (b : ℕ) → is_outer_run (run_mode b) [] ≡ true
outer_run b = go (b == 35)
  where
    go : (c : Bool) → is_outer_run (if c then hash else run) [] ≡ true
    go true = refl
    go false = refl

pub no_run_in_escape : (m : Mode) (escape : List ℕ) (lists : List (List Value)) → IsEscape escape m → is_outer_run m lists ≡ false
no_run_in_escape escaped escape lists h = refl
no_run_in_escape (decimal1 n) escape lists h = refl
no_run_in_escape (decimal2 n) escape lists h = refl
no_run_in_escape hexadecimal0 escape lists h = refl
no_run_in_escape (hexadecimal1 n) escape lists h = refl
no_run_in_escape other escape lists h = absurd h

pub no_outer_run : (m : Mode) (lists : List (List Value)) (n : ℕ) → length lists ≡ suc n → is_outer_run m lists ≡ false
no_outer_run m [] n e = absurd (omega (arith, e))
no_outer_run m (us ∷ ls) n e = inner_run m us ls

-- the machine over an item that isn't ended: a run outside of lists is the whole item
abbrev pub Stands : List ℕ → Type 0
Stands bytes = (t : State) × (through start bytes ≡ on t) × ((IsRun bytes → ⊥) → is_outer_run t.mode t.lists ≡ false)

run_outside : (bytes before own : List ℕ) → IsInRun zero bytes before own → bytes ≡ own
run_outside bytes before own h = h.spelled ∙ ap (λ xs. xs ++ own) h.opened

pub settled_length : (bytes : List ℕ) (t : State) (lists : List (List Value)) → Settled bytes t lists → length t.lists ≡ length lists
settled_length bytes t lists (inl e) = ap (λ u. length u.lists) e
settled_length bytes t lists (inr s) = ap (λ u. length u.lists) s.6 ∙ sym (ap length s.7)

pub unfinished_stands : (bytes : List ℕ) → IsUnfinished bytes → Stands bytes
unfinished_stands bytes (in_list n h) = let r = open_through (suc n) bytes h in
    (r.0, r.2, λ no. no_outer_run r.0.mode r.0.lists n (settled_length bytes r.0 r.1 r.3 ∙ r.4))
unfinished_stands bytes (in_comment n h) = let r = comment_reached (suc n) bytes h in (commenting r.0, r.1, λ no. refl)
unfinished_stands bytes (in_run zero before own h) =
    let r = run_reached zero bytes before own h in
    (running own r.0, r.1, λ no. absurd (no (subst IsRun (sym (run_outside bytes before own h)) h.is_run)))
unfinished_stands bytes (in_run (suc n) before own h) =
    let r = run_reached (suc n) bytes before own h in (running own r.0, r.1, λ no. no_outer_run (run_mode (last 32 own)) r.0 n r.2)
unfinished_stands bytes (in_quotes n before h) = let r = quotes_reached n bytes before h in (quoting h.of r.0, r.1, λ no. refl)
unfinished_stands bytes (in_escape n front escape h) =
    let m = escape_mode escape h.begun in let r = escape_reached n bytes front escape h m.0 m.1 in
    (at_mode m.0 h.in_quotes.of r.0, r.1, λ no. no_run_in_escape m.0 escape r.0 m.1)
