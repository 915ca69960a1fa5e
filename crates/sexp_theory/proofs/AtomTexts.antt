-- The machine over the text of an atom.
use Rattle.std.proofs.Common.{◌≡◌, ℕ, ◌+◌, ◌*◌, ◌/◌, ◌%◌, ◌<◌, ◌&&◌, ◌||◌, ◌==◌, List, [], ◌∷◌, ◌++◌, nat_le, nat_lt, get_or, not, true}
use Rattle.std.proofs.Common.{false, Bool, append_assoc, append-nil, refl, sym, ap, ◌∙◌, subst, inl, inr}
use Rattle.std.specs.List.{list_all, All}
use Rattle.std.proofs.lemmas.List.Sums.{AllPass-from_list_all, list_all-from_AllPass}
use Rattle.std.proofs.lemmas.List.Elements.{All-get_or, All-from_get_or}
use Rattle.std.specs.Char.{digit_value}
use Rattle.std.proofs.lemmas.Bool.{lt-ltb, ltb-true, eqb-true, and_parts, or_parts, or_cases, not-true, agree_below_at, cond_both}
use Rattle.sexp_theory.specs.Values.{Value}
use Rattle.sexp_theory.specs.Signs.{letter_value}
use Rattle.sexp_theory.specs.Writing.{is_itself, quoted_byte, quoted_bytes, decimal_escape}
use Rattle.sexp_theory.specs.Machine.{State, on, Mode, quoted, escaped, decimal1, decimal2, step}
use Rattle.sexp_theory.proofs.Goes.{Goes, stays, goes_by, goes_on}

abbrev pub is_byte : ℕ → Bool
is_byte b = nat_lt b 256

pub all_bytes : (bytes : List ℕ) → All (λ b. b < 256) bytes → list_all is_byte bytes ≡ true
all_bytes bytes h = list_all-from_AllPass is_byte bytes
    (All-from_get_or (λ b. is_byte b ≡ true) bytes 0 (λ i k. lt-ltb (get_or bytes i 0) 256 (All-get_or (λ b. b < 256) bytes i 0 k h)))

pub below_all : (bytes : List ℕ) → list_all is_byte bytes ≡ true → All (λ b. b < 256) bytes
below_all bytes e = All-from_get_or (λ b. b < 256) bytes 0
    (λ i k. ltb-true (get_or bytes i 0) 256 (All-get_or (λ b. is_byte b ≡ true) bytes i 0 k (AllPass-from_list_all is_byte bytes e)))

-- between quotes, behind these bytes of the atom
abbrev pub inside : List ℕ → List (List Value) → State
inside bytes lists = record { mode = quoted; atom = bytes; lists = lists }

abbrev escaping : Mode → List ℕ → List (List Value) → State
escaping mode bytes lists = record { mode = mode; atom = bytes; lists = lists }

pub itself_parts : (b : ℕ) → is_itself b ≡ true → ((b == 34) ≡ false) × ((b == 92) ≡ false)
itself_parts b e = or_parts (b == 34) (b == 92)
    (not-true (b == 34 || b == 92) (and_parts (nat_le 32 b && nat_le b 126) (not (b == 34 || b == 92)) e).1)

itself_goes : (b : ℕ) (bytes : List ℕ) (lists : List (List Value)) → is_itself b ≡ true
    → Goes (inside bytes lists) (b ∷ []) (inside (bytes ++ b ∷ []) lists)
itself_goes b bytes lists e =
    let p = itself_parts b e in
    let q : (b == 34) ≡ false = p.0 in
    let r : (b == 92) ≡ false = p.1 in
    goes_by b (inside bytes lists) (inside (bytes ++ b ∷ []) lists) refl (rw (q, r) refl)

letter_goes : (l b : ℕ) (bytes : List ℕ) (lists : List (List Value)) → letter_value l ≡ b → b < 256
    → Goes (inside bytes lists) (92 ∷ l ∷ []) (inside (bytes ++ b ∷ []) lists)
letter_goes l b bytes lists e h =
    let known : nat_lt b 256 ≡ true = lt-ltb b 256 h in
    goes_on (92 ∷ []) (l ∷ []) (inside bytes lists) (escaping escaped bytes lists) (inside (bytes ++ b ∷ []) lists)
    (goes_by 92 (inside bytes lists) (escaping escaped bytes lists) refl refl)
    (goes_by l (escaping escaped bytes lists) (inside (bytes ++ b ∷ []) lists) refl (rw (e, known) refl))

-- ---- the three digits of a byte

no_letter : (b : ℕ) → b < 256 → letter_value (48 + b / 100) ≡ 256
no_letter b h = eqb-true (letter_value (48 + b / 100)) 256
    (agree_below_at (λ b. letter_value (48 + b / 100) == 256) (λ _. true) 256 b refl h)

no_x : (b : ℕ) → b < 256 → (48 + b / 100 == 120) ≡ false
no_x b h = agree_below_at (λ b. 48 + b / 100 == 120) (λ _. false) 256 b refl h

first_small : (b : ℕ) → b < 256 → nat_lt (b / 100) 3 ≡ true
first_small b h = agree_below_at (λ b. nat_lt (b / 100) 3) (λ _. true) 256 b refl h

pub first_digit : (b : ℕ) → b < 256 → digit_value (48 + b / 100) ≡ b / 100
first_digit b h = eqb-true (digit_value (48 + b / 100)) (b / 100)
    (agree_below_at (λ b. digit_value (48 + b / 100) == b / 100) (λ _. true) 256 b refl h)

pub second_digit : (b : ℕ) → b < 256 → digit_value (48 + b / 10 % 10) ≡ b / 10 % 10
second_digit b h = eqb-true (digit_value (48 + b / 10 % 10)) (b / 10 % 10)
    (agree_below_at (λ b. digit_value (48 + b / 10 % 10) == b / 10 % 10) (λ _. true) 256 b refl h)

second_fits : (b : ℕ) → b < 256 → (nat_lt (b / 10 % 10) 10 && nat_lt (b / 100 * 100 + b / 10 % 10 * 10) 256) ≡ true
second_fits b h = agree_below_at (λ b. nat_lt (b / 10 % 10) 10 && nat_lt (b / 100 * 100 + b / 10 % 10 * 10) 256) (λ _. true) 256 b refl h

pub third_digit : (b : ℕ) → b < 256 → digit_value (48 + b % 10) ≡ b % 10
third_digit b h = eqb-true (digit_value (48 + b % 10)) (b % 10)
    (agree_below_at (λ b. digit_value (48 + b % 10) == b % 10) (λ _. true) 256 b refl h)

third_fits : (b : ℕ) → b < 256 → (nat_lt (b % 10) 10 && nat_lt ((b / 100 * 10 + b / 10 % 10) * 10 + b % 10) 256) ≡ true
third_fits b h = agree_below_at (λ b. nat_lt (b % 10) 10 && nat_lt ((b / 100 * 10 + b / 10 % 10) * 10 + b % 10) 256) (λ _. true) 256 b
    refl h

all_digits : (b : ℕ) → b < 256 → (b / 100 * 10 + b / 10 % 10) * 10 + b % 10 ≡ b
all_digits b h = eqb-true ((b / 100 * 10 + b / 10 % 10) * 10 + b % 10) b
    (agree_below_at (λ b. (b / 100 * 10 + b / 10 % 10) * 10 + b % 10 == b) (λ _. true) 256 b refl h)

first_step : (d : ℕ) (bytes : List ℕ) (lists : List (List Value)) → letter_value (48 + d) ≡ 256 → (48 + d == 120) ≡ false
    → digit_value (48 + d) ≡ d → nat_lt d 3 ≡ true
    → step (escaping escaped bytes lists) (48 + d) ≡ on (escaping (decimal1 d) bytes lists)
first_step d bytes lists p q r s = rw (p, q, r, s) refl

second_step : (n d : ℕ) (bytes : List ℕ) (lists : List (List Value)) → digit_value (48 + d) ≡ d
    → (nat_lt d 10 && nat_lt (n * 100 + d * 10) 256) ≡ true
    → step (escaping (decimal1 n) bytes lists) (48 + d) ≡ on (escaping (decimal2 (n * 10 + d)) bytes lists)
second_step n d bytes lists p q = rw (p, q) refl

third_step : (n d b : ℕ) (bytes : List ℕ) (lists : List (List Value)) → digit_value (48 + d) ≡ d
    → (nat_lt d 10 && nat_lt (n * 10 + d) 256) ≡ true → n * 10 + d ≡ b
    → step (escaping (decimal2 n) bytes lists) (48 + d) ≡ on (inside (bytes ++ b ∷ []) lists)
third_step n d b bytes lists p q r = rw (p, q, r) refl

decimal_goes : (b : ℕ) (bytes : List ℕ) (lists : List (List Value)) → b < 256
    → Goes (inside bytes lists) (decimal_escape b) (inside (bytes ++ b ∷ []) lists)
decimal_goes b bytes lists h =
    let s0 = inside bytes lists in
    let s1 = escaping escaped bytes lists in
    let s2 = escaping (decimal1 (b / 100)) bytes lists in
    let s3 = escaping (decimal2 (b / 100 * 10 + b / 10 % 10)) bytes lists in
    let s4 = inside (bytes ++ b ∷ []) lists in
    goes_on (92 ∷ []) ((48 + b / 100) ∷ (48 + b / 10 % 10) ∷ (48 + b % 10) ∷ []) s0 s1 s4 (goes_by 92 s0 s1 refl refl)
    (goes_on ((48 + b / 100) ∷ []) ((48 + b / 10 % 10) ∷ (48 + b % 10) ∷ []) s1 s2 s4
    (goes_by (48 + b / 100) s1 s2 refl (first_step (b / 100) bytes lists (no_letter b h) (no_x b h) (first_digit b h) (first_small b h)))
    (goes_on ((48 + b / 10 % 10) ∷ []) ((48 + b % 10) ∷ []) s2 s3 s4
    (goes_by (48 + b / 10 % 10) s2 s3 refl (second_step (b / 100) (b / 10 % 10) bytes lists (second_digit b h) (second_fits b h)))
    (goes_by (48 + b % 10) s3 s4 refl (third_step (b / 100 * 10 + b / 10 % 10) (b % 10) b bytes lists (third_digit b h) (third_fits b h)
    (all_digits b h)))))

-- ---- all bytes of an atom

pub sign_value : (b : ℕ) → (b == 34 || b == 92) ≡ true → letter_value b ≡ b
sign_value b e = elim (or_cases (b == 34) (b == 92) e) [
  | inl p ↦ ap letter_value (eqb-true b 34 p)
      ∙ sym (eqb-true b 34 p)
  | inr p ↦ ap letter_value (eqb-true b 92 p) ∙ sym (eqb-true b 92 p)
]

byte_goes : (b : ℕ) (bytes : List ℕ) (lists : List (List Value)) → b < 256
    → Goes (inside bytes lists) (quoted_byte b) (inside (bytes ++ b ∷ []) lists)
byte_goes b bytes lists h =
    let P : List ℕ → Type 0 = λ text. Goes (inside bytes lists) text (inside (bytes ++ b ∷ []) lists) in
    cond_both (is_itself b) _ _ P (λ e. itself_goes b bytes lists e)
    (λ _. cond_both (b == 10) _ _ P (λ e. letter_goes 110 b bytes lists (sym (eqb-true b 10 e)) h)
    (λ _. cond_both (b == 9) _ _ P (λ e. letter_goes 116 b bytes lists (sym (eqb-true b 9 e)) h)
    (λ _. cond_both (b == 13) _ _ P (λ e. letter_goes 114 b bytes lists (sym (eqb-true b 13 e)) h)
    (λ _. cond_both (b == 8) _ _ P (λ e. letter_goes 98 b bytes lists (sym (eqb-true b 8 e)) h)
    (λ _. cond_both (b == 34 || b == 92) _ _ P (λ e. letter_goes b b bytes lists (sign_value b e) h)
    (λ _. decimal_goes b bytes lists h))))))

pub bytes_go : (bs bytes : List ℕ) (lists : List (List Value)) → list_all is_byte bs ≡ true
    → Goes (inside bytes lists) (quoted_bytes bs) (inside (bytes ++ bs) lists)
bytes_go [] bytes lists h = subst (λ xs. Goes (inside bytes lists) [] (inside xs lists)) (sym (append-nil bytes))
    (stays (inside bytes lists))
bytes_go (b ∷ bs) bytes lists h =
    let p = and_parts (is_byte b) (list_all is_byte bs) h in
    subst (λ xs. Goes (inside bytes lists) (quoted_bytes (b ∷ bs)) (inside xs lists)) (append_assoc bytes (b ∷ []) bs)
    (goes_on (quoted_byte b) (quoted_bytes bs) (inside bytes lists) (inside (bytes ++ b ∷ []) lists)
    (inside ((bytes ++ b ∷ []) ++ bs) lists)
    (byte_goes b bytes lists (ltb-true b 256 p.0))
    (bytes_go bs (bytes ++ b ∷ []) lists p.1))
