-- Escapes that are begun: what a byte more makes of them.
use Rattle.std.proofs.Common.{◌≡◌, ◌≢◌, ◌⊎◌, inl, inr, ℕ, ◌+◌, ◌*◌, ◌<◌, ◌≤◌, ◌&&◌, List, [], ◌∷◌, ◌++◌, length, false, nat_lt, refl, sym}
use Rattle.std.proofs.Common.{ap, ◌∙◌, subst, arith}
use Rattle.std.proofs.lemmas.Bool.{le-ltb, eq-eqb, ne_eqb, and_left, and_right, cases_lt, cases_eq}
use Rattle.std.specs.Char.{digit_value}
use Rattle.sexp_theory.specs.Values.{Value}
use Rattle.sexp_theory.specs.Signs.{letter_value, is_decimal}
use Rattle.sexp_theory.specs.Spelling.{IsByte, itself, letter, decimal, hexadecimal}
use Rattle.sexp_theory.specs.Places.{BeginsEscape}
use Rattle.sexp_theory.specs.Machine.{Mode, escaped, decimal1, decimal2, hexadecimal0, hexadecimal1, Step, on, shown, step}
use Rattle.sexp_theory.specs.declared.input.BadKind.TheVariants.{BadEscape}
use Rattle.sexp_theory.proofs.Lists.{no_end}
use Rattle.sexp_theory.proofs.Walks.{through, through_step}
use Rattle.sexp_theory.proofs.Steps.{quoting}
use Rattle.sexp_theory.proofs.Quotes.{at_mode, is_digit, escape_letter, escape_decimal1, escape_decimal2, escape_decimal3}
use Rattle.sexp_theory.proofs.Quotes.{escape_hexadecimal1, escape_hexadecimal2}

-- the first bytes of an escape, by the mode behind them
abbrev pub IsEscape : List ℕ → Mode → Type 0
IsEscape bytes escaped = bytes ≡ 92 ∷ []
IsEscape bytes (decimal1 n) = (x : ℕ) × (bytes ≡ 92 ∷ x ∷ []) × (digit_value x < 3) × (n ≡ digit_value x)
IsEscape bytes (decimal2 n) = (x y : ℕ) × (bytes ≡ 92 ∷ x ∷ y ∷ []) × (digit_value x < 3) × (digit_value y < 10)
    × (digit_value x * 100 + digit_value y * 10 < 256) × (n ≡ digit_value x * 10 + digit_value y)
IsEscape bytes hexadecimal0 = bytes ≡ 92 ∷ 120 ∷ []
IsEscape bytes (hexadecimal1 n) = (x : ℕ) × (bytes ≡ 92 ∷ 120 ∷ x ∷ []) × (digit_value x < 16) × (n ≡ digit_value x)
IsEscape bytes mode = ⊥

-- ---- what is begun has a mode

module _ (more : List ℕ) (next : ℕ) where
  begun_letter : (rest : List ℕ) (l : ℕ) → 92 ∷ (rest ++ next ∷ more) ≡ 92 ∷ l ∷ [] → (m : Mode) × IsEscape (92 ∷ rest) m
  begun_letter [] l e = (escaped, refl)
  begun_letter (r ∷ rest) l e = absurd (no_end rest next more cc)

  begun_decimal : (rest : List ℕ) (x y z : ℕ) → 92 ∷ (rest ++ next ∷ more) ≡ 92 ∷ x ∷ y ∷ z ∷ [] → digit_value y < 10
      → digit_value x * 100 + digit_value y * 10 < 256 → (m : Mode) × IsEscape (92 ∷ rest) m
  begun_decimal [] x y z e hy h = (escaped, refl)
  begun_decimal (r ∷ []) x y z e hy h =
      let same : x ≡ r = cc in (decimal1 (digit_value r), (r, refl, omega (arith, h, ap digit_value same), refl))
  begun_decimal (r ∷ s ∷ []) x y z e hy h =
      let same : x ≡ r = cc in let same' : y ≡ s = cc in (
        decimal2 (digit_value r * 10 + digit_value s),
        (
          r,
          s,
          refl,
          omega (arith, h, ap digit_value same),
          omega (arith, hy, ap digit_value same'),
          omega (arith, h, ap digit_value same, ap digit_value same'),
          refl,
        ),
      )
  begun_decimal (r ∷ s ∷ t ∷ rest) x y z e hy h = absurd (no_end rest next more cc)

  begun_hexadecimal : (rest : List ℕ) (x y : ℕ) → 92 ∷ (rest ++ next ∷ more) ≡ 92 ∷ 120 ∷ x ∷ y ∷ [] → digit_value x < 16
      → (m : Mode) × IsEscape (92 ∷ rest) m
  begun_hexadecimal [] x y e hx = (escaped, refl)
  begun_hexadecimal (r ∷ []) x y e hx = (hexadecimal0, cc)
  begun_hexadecimal (r ∷ s ∷ []) x y e hx =
      let same : x ≡ s = cc in (hexadecimal1 (digit_value s), (s, cc, omega (arith, hx, ap digit_value same), refl))
  begun_hexadecimal (r ∷ s ∷ t ∷ rest) x y e hx = absurd (no_end rest next more cc)

  begun : (rest : List ℕ) (of : ℕ) → IsByte (92 ∷ (rest ++ next ∷ more)) of → (m : Mode) × IsEscape (92 ∷ rest) m
  begun rest of (itself e h k) = absurd (no_end rest next more cc)
  begun rest of (letter l e is h) = begun_letter rest l e
  begun rest of (decimal x y z e hx hy hz is h) = begun_decimal rest x y z e hy (omega (arith, is, h))
  begun rest of (hexadecimal x y e hx hy is) = begun_hexadecimal rest x y e hx

pub escape_mode : (escape : List ℕ) → BeginsEscape escape → (m : Mode) × IsEscape escape m
escape_mode escape h =
    let r = begun h.more h.next h.first.0 h.of (subst (λ xs. IsByte (xs ++ h.next ∷ h.more) h.of) h.first.1 h.is_byte) in
    (r.0, subst (λ xs. IsEscape xs r.0) (sym h.first.1) r.1)

-- ---- what has a mode is begun

begins_from : (escape rest : List ℕ) (next : ℕ) (more : List ℕ) (of : ℕ) → escape ≡ 92 ∷ rest → IsByte (92 ∷ (rest ++ next ∷ more)) of
    → BeginsEscape escape
begins_from escape rest next more of e h = record {
  next = next;
  more = more;
  of = of;
  first = (rest, e);
  is_byte = subst (λ xs. IsByte (xs ++ next ∷ more) of) (sym e) h;
}

pub mode_begins : (m : Mode) (escape : List ℕ) → IsEscape escape m → BeginsEscape escape
mode_begins escaped escape h = begins_from escape [] 110 [] 10 h (letter 110 refl refl (omega arith))
mode_begins (decimal1 n) escape h = begins_from escape (h.0 ∷ []) 48 (48 ∷ []) (digit_value h.0 * 100 + 0 * 10 + 0) h.1
    (decimal h.0 48 48 refl (omega (arith, h.2)) (omega arith) (omega arith) refl (omega (arith, h.2)))
mode_begins (decimal2 n) escape h = begins_from escape (h.0 ∷ h.1 ∷ []) 48 [] (digit_value h.0 * 100 + digit_value h.1 * 10 + 0) h.2
    (decimal h.0 h.1 48 refl (omega (arith, h.3)) h.4 (omega arith) refl (omega (arith, h.5)))
mode_begins hexadecimal0 escape h = begins_from escape (120 ∷ []) 48 (48 ∷ []) 0 h (hexadecimal 48 48 refl (omega arith) (omega arith) refl)
mode_begins (hexadecimal1 n) escape h = begins_from escape (120 ∷ h.0 ∷ []) 48 [] (digit_value h.0 * 16 + 0) h.1
    (hexadecimal h.0 48 refl h.2 (omega arith) refl)
mode_begins other escape h = absurd h

-- ---- the machine over what is begun

pub escape_through : (m : Mode) (escape of : List ℕ) (lists : List (List Value)) → IsEscape escape m
    → through (quoting of lists) escape ≡ on (at_mode m of lists)
escape_through escaped escape of lists h = ap (through (quoting of lists)) h
escape_through (decimal1 n) escape of lists h =
    ap (through (quoting of lists)) h.1 ∙ through_step (at_mode escaped of lists) (at_mode (decimal1 (digit_value h.0)) of lists) h.0 []
    (escape_decimal1 of lists h.0 h.2)
    ∙ ap (λ k. on (at_mode (decimal1 k) of lists)) (sym h.3)
escape_through (decimal2 n) escape of lists h =
    ap (through (quoting of lists)) h.2 ∙ through_step (at_mode escaped of lists) (at_mode (decimal1 (digit_value h.0)) of lists) h.0
    (h.1 ∷ []) (escape_decimal1 of lists h.0 h.3)
    ∙ through_step (at_mode (decimal1 (digit_value h.0)) of lists) (at_mode (decimal2 (digit_value h.0 * 10 + digit_value h.1)) of lists)
    h.1 [] (escape_decimal2 of lists (digit_value h.0) h.1 h.4 h.5)
    ∙ ap (λ k. on (at_mode (decimal2 k) of lists)) (sym h.6)
escape_through hexadecimal0 escape of lists h = ap (through (quoting of lists)) h
escape_through (hexadecimal1 n) escape of lists h =
    ap (through (quoting of lists)) h.1 ∙ through_step (at_mode hexadecimal0 of lists) (at_mode (hexadecimal1 (digit_value h.0)) of lists)
    h.0 [] (escape_hexadecimal1 of lists h.0 h.2)
    ∙ ap (λ k. on (at_mode (hexadecimal1 k) of lists)) (sym h.3)
escape_through other escape of lists h = absurd h

-- ---- a byte more: the escape ends, or goes on, or no escape is possible any more

abbrev Ended : List ℕ → Step → List ℕ → List (List Value) → Type 0
Ended bytes r of lists = (b : ℕ) × IsByte bytes b × (r ≡ on (quoting (of ++ b ∷ []) lists))

abbrev GoesOn : List ℕ → Step → List ℕ → List (List Value) → Type 0
GoesOn bytes r of lists = (m : Mode) × IsEscape bytes m × (r ≡ on (at_mode m of lists))

abbrev Fails : List ℕ → ℕ → Step → Type 0
Fails bytes back r = (r ≡ shown BadEscape back) × (BeginsEscape bytes → ⊥) × ((of : ℕ) → IsByte bytes of → ⊥)

abbrev pub EscapeStep : Mode → List ℕ → List ℕ → List (List Value) → ℕ → Type 0
EscapeStep m escape of lists b =
    Ended (escape ++ b ∷ []) (step (at_mode m of lists) b) of lists
    ⊎ (GoesOn (escape ++ b ∷ []) (step (at_mode m of lists) b) of lists
    ⊎ Fails (escape ++ b ∷ []) (length escape) (step (at_mode m of lists) b))

no_120 : (x n : ℕ) → digit_value x < 10 → 120 ≡ x → ⊥
no_120 x n h e = omega (arith, is_digit x h, e)

-- behind the backslash

fails_two : (b : ℕ) → 256 ≤ letter_value b → b ≢ 120 → 3 ≤ digit_value b → (m : Mode) → IsEscape (92 ∷ b ∷ []) m → ⊥
fails_two b h n k escaped e = omega (arith, ap length e)
fails_two b h n k (decimal1 d) e = let same : b ≡ e.0 = cc in omega (arith, e.2, k, ap digit_value same)
fails_two b h n k (decimal2 d) e = omega (arith, ap length e.2)
fails_two b h n k hexadecimal0 e = n cc
fails_two b h n k (hexadecimal1 d) e = omega (arith, ap length e.1)
fails_two b h n k other e = e

no_byte_two : (b : ℕ) → 256 ≤ letter_value b → (of : ℕ) → IsByte (92 ∷ b ∷ []) of → ⊥
no_byte_two b h of (itself e i j) = omega (arith, ap length e)
no_byte_two b h of (letter l e is k) = let same : b ≡ l = cc in omega (arith, h, is, k, ap letter_value same)
no_byte_two b h of (decimal x y z e hx hy hz is k) = omega (arith, ap length e)
no_byte_two b h of (hexadecimal x y e hx hy is) = omega (arith, ap length e)

steps_escaped : (of : List ℕ) (lists : List (List Value)) (b : ℕ) → EscapeStep escaped (92 ∷ []) of lists b
steps_escaped of lists b = one (cases_lt (letter_value b) 256)
  where
    three : 256 ≤ letter_value b → b ≢ 120 → (digit_value b < 3) ⊎ (3 ≤ digit_value b) → EscapeStep escaped (92 ∷ []) of lists b
    three h n (inl k) = inr (inl (decimal1 (digit_value b), (b, refl, k, refl), escape_decimal1 of lists b k))
    three h n (inr k) = inr (inr (
      rw (le-ltb (letter_value b) 256 h, ne_eqb b 120 n, le-ltb (digit_value b) 3 k),
      (λ g. let r = escape_mode (92 ∷ b ∷ []) g in fails_two b h n k r.0 r.1),
      no_byte_two b h,
    ))

    two : 256 ≤ letter_value b → (b ≡ 120) ⊎ (b ≡ 120 → ⊥) → EscapeStep escaped (92 ∷ []) of lists b
    two h (inl e) = inr (inl (hexadecimal0, ap (λ c. 92 ∷ c ∷ []) e, rw (le-ltb (letter_value b) 256 h, eq-eqb b 120 e)))
    two h (inr n) = three h n (cases_lt (digit_value b) 3)

    one : (letter_value b < 256) ⊎ (256 ≤ letter_value b) → EscapeStep escaped (92 ∷ []) of lists b
    one (inl h) = inl (letter_value b, letter b refl refl h, escape_letter of lists b h)
    one (inr h) = two h (cases_eq b 120)

-- behind the first decimal digit

fails_three : (x b : ℕ) → digit_value x < 3 → (digit_value b < 10 → digit_value x * 100 + digit_value b * 10 < 256 → ⊥) → (m : Mode)
    → IsEscape (92 ∷ x ∷ b ∷ []) m → ⊥
fails_three x b hx h escaped e = omega (arith, ap length e)
fails_three x b hx h (decimal1 d) e = omega (arith, ap length e.1)
fails_three x b hx h (decimal2 d) e =
    let same : x ≡ e.0 = cc in let same' : b ≡ e.1 = cc in
    h (omega (arith, e.4, ap digit_value same')) (omega (arith, e.5, ap digit_value same, ap digit_value same'))
fails_three x b hx h hexadecimal0 e = omega (arith, ap length e)
fails_three x b hx h (hexadecimal1 d) e = no_120 x 0 (omega (arith, hx)) cc
fails_three x b hx h other e = e

no_byte_three : (x b of : ℕ) → IsByte (92 ∷ x ∷ b ∷ []) of → ⊥
no_byte_three x b of (itself e i j) = omega (arith, ap length e)
no_byte_three x b of (letter l e is k) = omega (arith, ap length e)
no_byte_three x b of (decimal y z w e hx hy hz is k) = omega (arith, ap length e)
no_byte_three x b of (hexadecimal y z e hx hy is) = omega (arith, ap length e)

steps_decimal1 : (of : List ℕ) (lists : List (List Value)) (x b : ℕ) → digit_value x < 3
    → EscapeStep (decimal1 (digit_value x)) (92 ∷ x ∷ []) of lists b
steps_decimal1 of lists x b hx = one (cases_lt (digit_value b) 10) (cases_lt (digit_value x * 100 + digit_value b * 10) 256)
  where
    fails : (is_decimal b && nat_lt (digit_value x * 100 + digit_value b * 10) 256) ≡ false
        → (digit_value b < 10 → digit_value x * 100 + digit_value b * 10 < 256 → ⊥)
        → EscapeStep (decimal1 (digit_value x)) (92 ∷ x ∷ []) of lists b
    fails e n = inr (inr (rw e, (λ g. let r = escape_mode (92 ∷ x ∷ b ∷ []) g in fails_three x b hx n r.0 r.1), no_byte_three x b))

    one : (digit_value b < 10) ⊎ (10 ≤ digit_value b) → (digit_value x * 100 + digit_value b * 10 < 256)
        ⊎ (256 ≤ digit_value x * 100 + digit_value b * 10) → EscapeStep (decimal1 (digit_value x)) (92 ∷ x ∷ []) of lists b
    one (inl h) (inl k) = inr (inl (
      decimal2 (digit_value x * 10 + digit_value b),
      (x, b, refl, hx, h, k, refl),
      escape_decimal2 of lists (digit_value x) b h k,
    ))
    one (inl h) (inr k) = fails (and_right (is_decimal b) (nat_lt (digit_value x * 100 + digit_value b * 10) 256)
        (le-ltb (digit_value x * 100 + digit_value b * 10) 256 k)) (λ i j. omega (arith, j, k))
    one (inr h) k = fails (and_left (is_decimal b) (nat_lt (digit_value x * 100 + digit_value b * 10) 256) (le-ltb (digit_value b) 10 h))
        (λ i j. omega (arith, i, h))

-- behind the second

no_mode_four : (a b c d : ℕ) (m : Mode) → IsEscape (a ∷ b ∷ c ∷ d ∷ []) m → ⊥
no_mode_four a b c d escaped e = omega (arith, ap length e)
no_mode_four a b c d (decimal1 n) e = omega (arith, ap length e.1)
no_mode_four a b c d (decimal2 n) e = omega (arith, ap length e.2)
no_mode_four a b c d hexadecimal0 e = omega (arith, ap length e)
no_mode_four a b c d (hexadecimal1 n) e = omega (arith, ap length e.1)
no_mode_four a b c d other e = e

no_byte_four : (x y b : ℕ) → digit_value x < 3 → (digit_value b < 10 → digit_value x * 100 + digit_value y * 10 + digit_value b < 256 → ⊥)
    → (of : ℕ) → IsByte (92 ∷ x ∷ y ∷ b ∷ []) of → ⊥
no_byte_four x y b hx h of (itself e i j) = omega (arith, ap length e)
no_byte_four x y b hx h of (letter l e is k) = omega (arith, ap length e)
no_byte_four x y b hx h of (decimal u v w e hu hv hw is k) =
    let same : x ≡ u = cc in let same' : y ≡ v = cc in let last : b ≡ w = cc in
    h (omega (arith, hw, ap digit_value last)) (omega (arith, is, k, ap digit_value same, ap digit_value same', ap digit_value last))
no_byte_four x y b hx h of (hexadecimal u v e hu hv is) = no_120 x 0 (omega (arith, hx)) cc

steps_decimal2 : (of : List ℕ) (lists : List (List Value)) (x y b : ℕ) → digit_value x < 3 → digit_value y < 10
    → digit_value x * 100 + digit_value y * 10 < 256
    → EscapeStep (decimal2 (digit_value x * 10 + digit_value y)) (92 ∷ x ∷ y ∷ []) of lists b
steps_decimal2 of lists x y b hx hy h = one (cases_lt (digit_value b) 10)
    (cases_lt ((digit_value x * 10 + digit_value y) * 10 + digit_value b) 256)
  where
    fails : (is_decimal b && nat_lt ((digit_value x * 10 + digit_value y) * 10 + digit_value b) 256) ≡ false
        → (digit_value b < 10 → digit_value x * 100 + digit_value y * 10 + digit_value b < 256 → ⊥)
        → EscapeStep (decimal2 (digit_value x * 10 + digit_value y)) (92 ∷ x ∷ y ∷ []) of lists b
    fails e n = inr (inr (
      rw e,
      (λ g. let r = escape_mode (92 ∷ x ∷ y ∷ b ∷ []) g in no_mode_four 92 x y b r.0 r.1),
      no_byte_four x y b hx n,
    ))

    one : (digit_value b < 10) ⊎ (10 ≤ digit_value b) → ((digit_value x * 10 + digit_value y) * 10 + digit_value b < 256)
        ⊎ (256 ≤ (digit_value x * 10 + digit_value y) * 10 + digit_value b)
        → EscapeStep (decimal2 (digit_value x * 10 + digit_value y)) (92 ∷ x ∷ y ∷ []) of lists b
    one (inl i) (inl k) = inl (
      (digit_value x * 10 + digit_value y) * 10 + digit_value b,
      decimal x y b refl (omega (arith, hx)) hy i (omega arith) k,
      escape_decimal3 of lists (digit_value x * 10 + digit_value y) b i k,
    )
    one (inl i) (inr k) = fails (and_right (is_decimal b) (nat_lt ((digit_value x * 10 + digit_value y) * 10 + digit_value b) 256)
        (le-ltb ((digit_value x * 10 + digit_value y) * 10 + digit_value b) 256 k)) (λ j l. omega (arith, l, k))
    one (inr i) k = fails (and_left (is_decimal b) (nat_lt ((digit_value x * 10 + digit_value y) * 10 + digit_value b) 256)
        (le-ltb (digit_value b) 10 i)) (λ j l. omega (arith, j, i))

-- behind the `x`, and behind the first hexadecimal digit

fails_x : (b : ℕ) → 16 ≤ digit_value b → (m : Mode) → IsEscape (92 ∷ 120 ∷ b ∷ []) m → ⊥
fails_x b h escaped e = omega (arith, ap length e)
fails_x b h (decimal1 n) e = omega (arith, ap length e.1)
fails_x b h (decimal2 n) e = no_120 e.0 0 (omega (arith, e.3)) cc
fails_x b h hexadecimal0 e = omega (arith, ap length e)
fails_x b h (hexadecimal1 n) e = let same : b ≡ e.0 = cc in omega (arith, e.2, h, ap digit_value same)
fails_x b h other e = e

steps_hexadecimal0 : (of : List ℕ) (lists : List (List Value)) (b : ℕ) → EscapeStep hexadecimal0 (92 ∷ 120 ∷ []) of lists b
steps_hexadecimal0 of lists b = one (cases_lt (digit_value b) 16)
  where
    one : (digit_value b < 16) ⊎ (16 ≤ digit_value b) → EscapeStep hexadecimal0 (92 ∷ 120 ∷ []) of lists b
    one (inl h) = inr (inl (hexadecimal1 (digit_value b), (b, refl, h, refl), escape_hexadecimal1 of lists b h))
    one (inr h) = inr (inr (
      rw (le-ltb (digit_value b) 16 h),
      (λ g. let r = escape_mode (92 ∷ 120 ∷ b ∷ []) g in fails_x b h r.0 r.1),
      no_byte_three 120 b,
    ))

no_byte_x : (x b : ℕ) → 16 ≤ digit_value b → (of : ℕ) → IsByte (92 ∷ 120 ∷ x ∷ b ∷ []) of → ⊥
no_byte_x x b h of (itself e i j) = omega (arith, ap length e)
no_byte_x x b h of (letter l e is k) = omega (arith, ap length e)
no_byte_x x b h of (decimal u v w e hu hv hw is k) = no_120 u 0 hu cc
no_byte_x x b h of (hexadecimal u v e hu hv is) = let same : b ≡ v = cc in omega (arith, h, hv, ap digit_value same)

steps_hexadecimal1 : (of : List ℕ) (lists : List (List Value)) (x b : ℕ) → digit_value x < 16
    → EscapeStep (hexadecimal1 (digit_value x)) (92 ∷ 120 ∷ x ∷ []) of lists b
steps_hexadecimal1 of lists x b hx = one (cases_lt (digit_value b) 16)
  where
    one : (digit_value b < 16) ⊎ (16 ≤ digit_value b) → EscapeStep (hexadecimal1 (digit_value x)) (92 ∷ 120 ∷ x ∷ []) of lists b
    one (inl h) = inl (digit_value x * 16 + digit_value b, hexadecimal x b refl hx h refl, escape_hexadecimal2 of lists (digit_value x) b h)
    one (inr h) = inr (inr (
      rw (le-ltb (digit_value b) 16 h),
      (λ g. let r = escape_mode (92 ∷ 120 ∷ x ∷ b ∷ []) g in no_mode_four 92 120 x b r.0 r.1),
      no_byte_x x b h,
    ))

at_escape : {escape bytes : List ℕ} (m n : Mode) (of : List ℕ) (lists : List (List Value)) (b : ℕ) → escape ≡ bytes → m ≡ n
    → EscapeStep n bytes of lists b → EscapeStep m escape of lists b
at_escape {escape} {bytes} m n of lists b e k h = subst (λ x. EscapeStep x escape of lists b) (sym k)
    (subst (λ xs. EscapeStep n xs of lists b) (sym e) h)

pub escape_steps : (m : Mode) (escape of : List ℕ) (lists : List (List Value)) (b : ℕ) → IsEscape escape m → EscapeStep m escape of lists b
escape_steps escaped escape of lists b h = at_escape escaped escaped of lists b h refl (steps_escaped of lists b)
escape_steps (decimal1 n) escape of lists b h =
    at_escape (decimal1 n) (decimal1 (digit_value h.0)) of lists b h.1 (ap decimal1 h.3) (steps_decimal1 of lists h.0 b h.2)
escape_steps (decimal2 n) escape of lists b h =
    at_escape (decimal2 n) (decimal2 (digit_value h.0 * 10 + digit_value h.1)) of lists b h.2 (ap decimal2 h.6)
    (steps_decimal2 of lists h.0 h.1 b h.3 h.4 h.5)
escape_steps hexadecimal0 escape of lists b h = at_escape hexadecimal0 hexadecimal0 of lists b h refl (steps_hexadecimal0 of lists b)
escape_steps (hexadecimal1 n) escape of lists b h =
    at_escape (hexadecimal1 n) (hexadecimal1 (digit_value h.0)) of lists b h.1 (ap hexadecimal1 h.3)
    (steps_hexadecimal1 of lists h.0 b h.2)
escape_steps other escape of lists b h = absurd h
