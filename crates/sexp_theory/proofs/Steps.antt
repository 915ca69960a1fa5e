-- What a byte makes of the machine's state.
use Rattle.std.proofs.Common.{◌≡◌, ◌≢◌, ◌⊎◌, inl, inr, ℕ, ◌<◌, ◌≤◌, ◌==◌, ◌||◌, List, [], ◌∷◌, length, Bool, true, false, not}
use Rattle.std.proofs.Common.{if◌then◌else◌, refl, sym, ap, ◌∙◌, subst, true≢false}
use Rattle.std.proofs.lemmas.Bool.{lt-ltb, le-ltb, eqb-true, ne_eqb, or_parts, not-true, not-false}
use Rattle.sexp_theory.specs.Values.{Value}
use Rattle.sexp_theory.specs.Signs.{is_blank, is_delimiter, is_plain}
use Rattle.sexp_theory.specs.Places.{most_lists}
use Rattle.sexp_theory.specs.Machine.{State, between, commented, run, hash, quoted, on, shown, step, step_between, step_behind_run}
use Rattle.sexp_theory.specs.Machine.{run_mode, add_byte}
use Rattle.sexp_theory.specs.declared.input.BadKind.TheVariants.{TooDeep, HashBar}
use Rattle.sexp_theory.proofs.Lists.{last}

-- ---- states by name

abbrev pub standing : List (List Value) → State
standing lists = record { mode = between; atom = []; lists = lists }

abbrev pub commenting : List (List Value) → State
commenting lists = record { mode = commented; atom = []; lists = lists }

abbrev pub running : List ℕ → List (List Value) → State
running bytes lists = record { mode = run_mode (last 32 bytes); atom = bytes; lists = lists }

abbrev pub quoting : List ℕ → List (List Value) → State
quoting bytes lists = record { mode = quoted; atom = bytes; lists = lists }

-- ---- bytes

pub plain_parts : (b : ℕ) → is_plain b ≡ true → (is_blank b ≡ false) × ((b == 34) ≡ false) × ((b == 40) ≡ false) × ((b == 41) ≡ false)
    × ((b == 59) ≡ false)
plain_parts b e =
    let a = or_parts _ _ (not-true _ e) in let c = or_parts _ _ a.0 in let d = or_parts _ _ c.0 in let f = or_parts _ _ d.0 in
    (f.0, f.1, d.1, c.1, a.1)

pub blank_ends : (b : ℕ) → is_blank b ≡ true → is_plain b ≡ false
blank_ends b e = ap (λ c. not (c || b == 34 || b == 40 || b == 41 || b == 59)) e

-- ---- between values

pub stands_blank : (lists : List (List Value)) (b : ℕ) → is_blank b ≡ true → step_between lists b ≡ on (standing lists)
stands_blank lists b e = rw e

pub stands_plain : (lists : List (List Value)) (b : ℕ) → is_plain b ≡ true → step_between lists b ≡ on (running (b ∷ []) lists)
stands_plain lists b e = let p = plain_parts b e in rw (p.0, p.4, p.2, p.3, p.1)

pub opens_list : (lists : List (List Value)) → length lists < most_lists → step_between lists 40 ≡ on (standing ([] ∷ lists))
opens_list lists h = rw (lt-ltb (length lists) most_lists h)

pub too_many_lists : (lists : List (List Value)) → most_lists ≤ length lists → step_between lists 40 ≡ shown TooDeep 0
too_many_lists lists h = rw (le-ltb (length lists) most_lists h)

-- ---- in a run

-- a byte of a run behind another that isn't the bar behind a `#`
pub runs_on : (bytes : List ℕ) (lists : List (List Value)) (b : ℕ) → is_plain b ≡ true → (last 32 bytes ≡ 35 → b ≢ 124)
    → step (running bytes lists) b ≡ add_byte (run_mode b) b (running bytes lists)
runs_on bytes lists b p h = go (last 32 bytes == 35) (λ e. h (eqb-true _ _ e))
  where
    go : (c : Bool) → (c ≡ true → b ≢ 124) → step (record { mode = if c then hash else run; atom = bytes; lists = lists }) b
        ≡ add_byte (run_mode b) b (record { mode = if c then hash else run; atom = bytes; lists = lists })
    go true k = rw (not-true _ p, (plain_parts b p).4, ne_eqb b 124 (k refl))
    go false k = rw (not-true _ p)

-- a delimiter behind a run, but no `;` behind a `#`
pub run_ends : (bytes : List ℕ) (lists : List (List Value)) (b : ℕ) → is_plain b ≡ false → (last 32 bytes ≡ 35 → b ≢ 59)
    → step (running bytes lists) b ≡ step_behind_run bytes lists b
run_ends bytes lists b p h = go (last 32 bytes == 35) (λ e. h (eqb-true _ _ e))
  where
    ends : is_delimiter b ≡ true
    ends = not-false _ p

    no_bar : b ≢ 124
    no_bar e = true≢false (sym (ap is_plain e) ∙ p)

    go : (c : Bool) → (c ≡ true → b ≢ 59) → step (record { mode = if c then hash else run; atom = bytes; lists = lists }) b
        ≡ step_behind_run bytes lists b
    go true k = rw (ends, ne_eqb b 59 (k refl), ne_eqb b 124 no_bar)
    go false k = rw ends

-- a bar or a `;` behind a `#`
pub shows_hash : (bytes : List ℕ) (lists : List (List Value)) (b : ℕ) → last 32 bytes ≡ 35 → (b ≡ 59) ⊎ (b ≡ 124)
    → step (running bytes lists) b ≡ shown HashBar 1
shows_hash bytes lists b e h = subst (λ l. step (record { mode = run_mode l; atom = bytes; lists = lists }) b ≡ shown HashBar 1) (sym e)
    (go h)
  where
    go : (b ≡ 59) ⊎ (b ≡ 124) → step (record { mode = hash; atom = bytes; lists = lists }) b ≡ shown HashBar 1
    go (inl k) = subst (λ c. step (record { mode = hash; atom = bytes; lists = lists }) c ≡ shown HashBar 1) (sym k) refl
    go (inr k) = subst (λ c. step (record { mode = hash; atom = bytes; lists = lists }) c ≡ shown HashBar 1) (sym k) refl
