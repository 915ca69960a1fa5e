-- The machine over bytes: from a state to a state.
use Rattle.std.proofs.Common.{◌≡◌, ℕ, ◌+◌, ◌<◌, ◌≤◌, List, [], ◌∷◌, ◌++◌, length, nat_le, false, append_assoc, length-append, refl, ap}
use Rattle.std.proofs.Common.{◌∙◌, arith}
use Rattle.std.proofs.lemmas.Bool.{lt-leb}
use Rattle.sexp_theory.specs.Values.{Value}
use Rattle.sexp_theory.specs.Places.{value}
use Rattle.sexp_theory.specs.Machine.{State, on, whole, step, is_behind, found_from}

module _ (limit from n b : ℕ) (s : State) where
  pub one_step : (t : State) (rest : List ℕ) → is_behind s b ≡ false → step s b ≡ on t → n < limit
      → found_from limit from n s (b ∷ rest) ≡ found_from limit from (n + 1) t rest
  one_step t rest inside e h =
      let free : nat_le limit n ≡ false = lt-leb limit n h in
      rw (inside, free, e) refl

  pub last_step : (v : Value) (rest : List ℕ) → is_behind s b ≡ false → step s b ≡ whole v → n < limit
      → found_from limit from n s (b ∷ rest) ≡ value v from (from + n + 1)
  last_step v rest inside e h =
      let free : nat_le limit n ≡ false = lt-leb limit n h in
      rw (inside, free, e, inside) refl

-- over the bytes the machine comes from a state to another
abbrev pub Goes : State → List ℕ → State → Type 0
Goes s bytes t = (limit from n : ℕ) (rest : List ℕ) → n + length bytes ≤ limit
    → found_from limit from n s (bytes ++ rest) ≡ found_from limit from (n + length bytes) t rest

pub stays : (s : State) → Goes s [] s
stays s limit from n rest h =
    let same : n ≡ n + 0 = omega arith in
    ap (λ k. found_from limit from k s rest) same

pub goes_by : (b : ℕ) (s t : State) → is_behind s b ≡ false → step s b ≡ on t → Goes s (b ∷ []) t
goes_by b s t inside e limit from n rest h = one_step limit from n b s t rest inside e (omega (arith, h))

pub goes_on : (xs ys : List ℕ) (s t u : State) → Goes s xs t → Goes t ys u → Goes s (xs ++ ys) u
goes_on xs ys s t u p q limit from n rest h =
    let long : n + length xs + length ys ≡ n + length (xs ++ ys) = omega (arith, length-append xs ys) in
    ap (found_from limit from n s) (append_assoc xs ys rest)
    ∙ p limit from n (ys ++ rest) (omega (arith, h, length-append xs ys))
    ∙ q limit from (n + length xs) rest (omega (arith, h, length-append xs ys))
    ∙ ap (λ k. found_from limit from k u rest) long
