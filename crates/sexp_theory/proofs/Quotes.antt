-- The machine over an atom in quotes.
use Rattle.std.proofs.Common.{◌≡◌, ◌≢◌, ℕ, ◌+◌, ◌*◌, ◌<◌, ◌≤◌, List, [], ◌∷◌, ◌++◌, nat_lt, sym, ap, ◌∙◌, append_assoc, append-nil, arith}
use Rattle.std.proofs.lemmas.Bool.{lt-ltb, le-ltb, ne_eqb, and_from}
use Rattle.std.proofs.lemmas.Bool.Decides.{nat_tests}
use Rattle.std.specs.Char.{digit_value}
use Rattle.sexp_theory.specs.Values.{Value}
use Rattle.sexp_theory.specs.Signs.{letter_value, is_decimal}
use Rattle.sexp_theory.specs.Spelling.{IsByte, itself, letter, decimal, hexadecimal, AreBytes}
use Rattle.sexp_theory.specs.Machine.{State, Mode, escaped, decimal1, decimal2, hexadecimal0, hexadecimal1, on, step}
use Rattle.sexp_theory.proofs.Walks.{through, through_step, through_append}
use Rattle.sexp_theory.proofs.Steps.{quoting}

abbrev pub at_mode : Mode → List ℕ → List (List Value) → State
at_mode mode bytes lists = record { mode = mode; atom = bytes; lists = lists }

pub is_digit : (x : ℕ) → digit_value x < 10 → (48 ≤ x) × (x ≤ 57)
is_digit x h = grind (arith, nat_tests)

pub no_letter : (x : ℕ) → digit_value x < 10 → letter_value x ≡ 256
no_letter x h = let d = is_digit x h in grind (arith, nat_tests)

-- ---- the steps of an escape

pub byte_itself : (of : List ℕ) (lists : List (List Value)) (b : ℕ) → b ≢ 34 → b ≢ 92
    → step (quoting of lists) b ≡ on (quoting (of ++ b ∷ []) lists)
byte_itself of lists b h k = rw (ne_eqb b 34 h, ne_eqb b 92 k)

pub escape_letter : (of : List ℕ) (lists : List (List Value)) (l : ℕ) → letter_value l < 256
    → step (at_mode escaped of lists) l ≡ on (quoting (of ++ letter_value l ∷ []) lists)
escape_letter of lists l h = rw (lt-ltb (letter_value l) 256 h)

pub escape_decimal1 : (of : List ℕ) (lists : List (List Value)) (x : ℕ) → digit_value x < 3
    → step (at_mode escaped of lists) x ≡ on (at_mode (decimal1 (digit_value x)) of lists)
escape_decimal1 of lists x h =
    let d = is_digit x (omega (arith, h)) in
    rw (
      le-ltb (letter_value x) 256 (omega (arith, no_letter x (omega (arith, h)))),
      ne_eqb x 120 (λ e. absurd (omega (arith, d, e))),
      lt-ltb (digit_value x) 3 h,
    )

pub escape_decimal2 : (of : List ℕ) (lists : List (List Value)) (n y : ℕ) → digit_value y < 10 → n * 100 + digit_value y * 10 < 256
    → step (at_mode (decimal1 n) of lists) y ≡ on (at_mode (decimal2 (n * 10 + digit_value y)) of lists)
escape_decimal2 of lists n y h k = rw (and_from (is_decimal y) (nat_lt (n * 100 + digit_value y * 10) 256) (lt-ltb (digit_value y) 10 h)
    (lt-ltb (n * 100 + digit_value y * 10) 256 k))

pub escape_decimal3 : (of : List ℕ) (lists : List (List Value)) (n z : ℕ) → digit_value z < 10 → n * 10 + digit_value z < 256
    → step (at_mode (decimal2 n) of lists) z ≡ on (quoting (of ++ (n * 10 + digit_value z) ∷ []) lists)
escape_decimal3 of lists n z h k = rw (and_from (is_decimal z) (nat_lt (n * 10 + digit_value z) 256) (lt-ltb (digit_value z) 10 h)
    (lt-ltb (n * 10 + digit_value z) 256 k))

pub escape_hexadecimal1 : (of : List ℕ) (lists : List (List Value)) (x : ℕ) → digit_value x < 16
    → step (at_mode hexadecimal0 of lists) x ≡ on (at_mode (hexadecimal1 (digit_value x)) of lists)
escape_hexadecimal1 of lists x h = rw (lt-ltb (digit_value x) 16 h)

pub escape_hexadecimal2 : (of : List ℕ) (lists : List (List Value)) (n y : ℕ) → digit_value y < 16
    → step (at_mode (hexadecimal1 n) of lists) y ≡ on (quoting (of ++ (n * 16 + digit_value y) ∷ []) lists)
escape_hexadecimal2 of lists n y h = rw (lt-ltb (digit_value y) 16 h)

-- ---- a byte, and all bytes

pub byte_through : (one of : List ℕ) (lists : List (List Value)) (b : ℕ) → IsByte one b
    → through (quoting of lists) one ≡ on (quoting (of ++ b ∷ []) lists)
byte_through one of lists b (itself e h k) = ap (through (quoting of lists)) e
    ∙ through_step (quoting of lists) (quoting (of ++ b ∷ []) lists) b [] (byte_itself of lists b h k)
byte_through one of lists b (letter l e is h) =
    ap (through (quoting of lists)) e ∙ through_step (at_mode escaped of lists) (quoting (of ++ letter_value l ∷ []) lists) l []
    (escape_letter of lists l (omega (arith, is, h))) ∙ ap (λ c. on (quoting (of ++ c ∷ []) lists)) (sym is)
byte_through one of lists b (decimal x y z e hx hy hz is h) =
    ap (through (quoting of lists)) e
    ∙ through_step (at_mode escaped of lists) (at_mode (decimal1 (digit_value x)) of lists) x (y ∷ z ∷ [])
    (escape_decimal1 of lists x (omega (arith, is, h)))
    ∙ through_step (at_mode (decimal1 (digit_value x)) of lists) (at_mode (decimal2 (digit_value x * 10 + digit_value y)) of lists) y
    (z ∷ []) (escape_decimal2 of lists (digit_value x) y hy (omega (arith, is, h)))
    ∙ through_step (at_mode (decimal2 (digit_value x * 10 + digit_value y)) of lists)
    (quoting (of ++ ((digit_value x * 10 + digit_value y) * 10 + digit_value z) ∷ []) lists) z []
    (escape_decimal3 of lists (digit_value x * 10 + digit_value y) z hz (omega (arith, is, h)))
    ∙ ap (λ c. on (quoting (of ++ c ∷ []) lists)) (omega (arith, is))
byte_through one of lists b (hexadecimal x y e hx hy is) =
    ap (through (quoting of lists)) e
    ∙ through_step (at_mode hexadecimal0 of lists) (at_mode (hexadecimal1 (digit_value x)) of lists) x (y ∷ [])
    (escape_hexadecimal1 of lists x hx)
    ∙ through_step (at_mode (hexadecimal1 (digit_value x)) of lists) (quoting (of ++ (digit_value x * 16 + digit_value y) ∷ []) lists) y
    [] (escape_hexadecimal2 of lists (digit_value x) y hy)
    ∙ ap (λ c. on (quoting (of ++ c ∷ []) lists)) (sym is)

pub bytes_through : (inner bs of : List ℕ) (lists : List (List Value)) → AreBytes inner bs
    → through (quoting of lists) inner ≡ on (quoting (of ++ bs) lists)
bytes_through inner [] of lists h = ap (through (quoting of lists)) h ∙ ap (λ xs. on (quoting xs lists)) (sym (append-nil of))
bytes_through inner (b ∷ bs) of lists h =
    ap (through (quoting of lists)) h.2
    ∙ through_append (quoting of lists) (quoting (of ++ b ∷ []) lists) h.0 h.1 (byte_through h.0 of lists b h.3)
    ∙ bytes_through h.1 bs (of ++ b ∷ []) lists h.4
    ∙ ap (λ xs. on (quoting xs lists)) (append_assoc of (b ∷ []) bs)
