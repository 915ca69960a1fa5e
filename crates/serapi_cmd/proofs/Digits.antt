-- The digits of a number, one by one.
use Rattle.std.proofs.Common.{◌≡◌, ◌≢◌, ◌+◌, ◌*◌, ◌<◌, ◌≤◌, ◌&&◌, nat_lt, ℕ, List, [], ◌∷◌, length, take, get_or, Bool, true, false, Some}
use Rattle.std.proofs.Common.{None, refl, sym, ap, ◌∙◌, arith, if◌then◌else◌, subst}
use Rattle.std.specs.List.{list_all}
use Rattle.std.specs.Char.{digit_value}
use Rattle.std.specs.Str.Parse.{digits_value}
use Rattle.std.proofs.lemmas.Bool.{and_from, lt-ltb, ltb-false, ltb-true, le-ltb}
use Rattle.std.proofs.lemmas.List.{take_all}
use Rattle.std.proofs.lemmas.List.Folds.{list_all_more, list_all_at}
use Rattle.std.proofs.lemmas.Int.Digits.{digits_value_more}
use Rattle.std.proofs.lemmas.Str.Parse.{digits_value-take-le}
use Rattle.sexp_theory.specs.Signs.{is_decimal}
use Rattle.serapi_cmd.specs.Numbers.{number_of, with_digit}

abbrev pub most : ℕ
most = 18446744073709551616

-- the first i bytes are digits of the number n
abbrev pub IsRead : List ℕ → ℕ → ℕ → Type 0
IsRead bytes i n = (n ≡ digits_value 10 (take i bytes)) × (list_all is_decimal (take i bytes) ≡ true) × (n < most)

-- a digit more
pub read_more : (bytes : List ℕ) (i n m : ℕ) → i < length bytes → IsRead bytes i n → Some m ≡ with_digit n (get_or bytes i 0)
    → IsRead bytes (i + 1) m
read_more bytes i n m within read is = by (is_decimal (get_or bytes i 0)) (nat_lt (n * 10 + digit_value (get_or bytes i 0)) most) refl
    refl is
  where
    by : (d s : Bool) → is_decimal (get_or bytes i 0) ≡ d → nat_lt (n * 10 + digit_value (get_or bytes i 0)) most ≡ s
        → Some m ≡ (if d && s then Some (n * 10 + digit_value (get_or bytes i 0)) else None) → IsRead bytes (i + 1) m
    by true true d s e =
        let h : m ≡ n * 10 + digit_value (get_or bytes i 0) = cc in (
          h ∙ ap (λ k. k * 10 + digit_value (get_or bytes i 0)) read.0 ∙ sym (digits_value_more 10 bytes i within),
          list_all_more is_decimal bytes i 0 within ∙ and_from (list_all is_decimal (take i bytes)) (is_decimal (get_or bytes i 0)) read.1
              d,
          subst (λ k. k < most) (sym h) (ltb-true _ _ s),
        )
    by true false d s e = cc
    by false s d t e = cc

none_of : {X : Type 0} (a s : Bool) (x : X) → s ≡ false → None ≡ (if a && s then Some x else None)
none_of true s x e = ap (λ t. if t then Some x else None) (sym e)
none_of false s x e = refl

not_digits : (bytes : List ℕ) → list_all is_decimal bytes ≡ false → None ≡ number_of bytes
not_digits [] e = refl
not_digits (b ∷ bs) e = ap (λ t. if t && nat_lt (digits_value 10 (b ∷ bs)) most then Some (digits_value 10 (b ∷ bs)) else None) (sym e)

too_large : (bytes : List ℕ) → nat_lt (digits_value 10 bytes) most ≡ false → None ≡ number_of bytes
too_large [] e = refl
too_large (b ∷ bs) e = none_of (list_all is_decimal (b ∷ bs)) (nat_lt (digits_value 10 (b ∷ bs)) most) (digits_value 10 (b ∷ bs)) e

-- no digit more
pub read_fails : (bytes : List ℕ) (i n : ℕ) → i < length bytes → IsRead bytes i n → None ≡ with_digit n (get_or bytes i 0)
    → None ≡ number_of bytes
read_fails bytes i n within read is = by (is_decimal (get_or bytes i 0)) (nat_lt (n * 10 + digit_value (get_or bytes i 0)) most) refl refl
    is
  where
    by : (d s : Bool) → is_decimal (get_or bytes i 0) ≡ d → nat_lt (n * 10 + digit_value (get_or bytes i 0)) most ≡ s
        → None ≡ (if d && s then Some (n * 10 + digit_value (get_or bytes i 0)) else None) → None ≡ number_of bytes
    by true true d s e = cc
    by true false d s e =
        let so_far : n * 10 + digit_value (get_or bytes i 0) ≡ digits_value 10 (take (i + 1) bytes) =
        ap (λ k. k * 10 + digit_value (get_or bytes i 0)) read.0 ∙ sym (digits_value_more 10 bytes i within) in
        let large : most ≤ n * 10 + digit_value (get_or bytes i 0) = ltb-false _ _ s in
        too_large bytes (le-ltb (digits_value 10 bytes) most
        (omega (arith, large, so_far, digits_value-take-le 10 bytes (i + 1) (omega arith))))
    by false s d t e = not_digits bytes (list_all_at is_decimal bytes i 0 within d)

-- all digits are read
pub read_all : (bytes : List ℕ) (i n : ℕ) → length bytes ≢ 0 → length bytes ≤ i → IsRead bytes i n → Some n ≡ number_of bytes
read_all [] i n some all read = absurd (some refl)
read_all (b ∷ bs) i n some all read =
    let whole : take i (b ∷ bs) ≡ b ∷ bs = take_all i (b ∷ bs) all in
    let value : n ≡ digits_value 10 (b ∷ bs) = read.0 ∙ ap (digits_value 10) whole in
    let digits : list_all is_decimal (b ∷ bs) ≡ true = ap (list_all is_decimal) (sym whole) ∙ read.1 in
    let fits : nat_lt (digits_value 10 (b ∷ bs)) most ≡ true = lt-ltb _ _ (subst (λ k. k < most) value read.2) in
    ap Some value ∙ ap (λ t. if t then Some (digits_value 10 (b ∷ bs)) else None)
    (sym (and_from (list_all is_decimal (b ∷ bs)) (nat_lt (digits_value 10 (b ∷ bs)) most) digits fits))
