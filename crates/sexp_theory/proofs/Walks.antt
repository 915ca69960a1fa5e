-- The machine over bytes inside an item.
use Rattle.std.proofs.Common.{◌≡◌, ℕ, suc, ◌+◌, ◌-◌, ◌<◌, ◌≤◌, ◌&&◌, List, [], ◌∷◌, ◌++◌, length, Bool, false, not, nat_le, if◌then◌else◌}
use Rattle.std.proofs.Common.{refl, ap, ◌∙◌, arith}
use Rattle.std.proofs.lemmas.Bool.{and_right, lt-leb}
use Rattle.sexp_theory.specs.Places.{Found, bad, value}
use Rattle.sexp_theory.specs.Machine.{State, Step, on, whole, shown, step, start, found_from, is_behind}
use Rattle.sexp_theory.specs.declared.input.BadKind.TheVariants.{TooLong}

-- what goes on where the machine does
abbrev pub proceed : Step → (State → Step) → Step
proceed (on s) next = next s
proceed (whole v) next = whole v
proceed (shown kind back) next = shown kind back

abbrev pub through : State → List ℕ → Step
through s [] = on s
through s (b ∷ bs) = proceed (step s b) (λ t. through t bs)

abbrev pub state_of : Step → State
state_of (on s) = s
state_of (whole v) = start
state_of (shown kind back) = start

pub same_state : (s t : State) → on s ≡ on t → s ≡ t
same_state s t e = ap state_of e

pub through_step : (s t : State) (b : ℕ) (bs : List ℕ) → step s b ≡ on t → through s (b ∷ bs) ≡ through t bs
through_step s t b bs e = ap (λ z. proceed z (λ u. through u bs)) e

through_then : (r : Step) (t : State) (bs ys : List ℕ) → ((u : State) → through u bs ≡ on t → through u (bs ++ ys) ≡ through t ys)
    → proceed r (λ u. through u bs) ≡ on t → proceed r (λ u. through u (bs ++ ys)) ≡ through t ys
through_then (on u) t bs ys h e = h u e
through_then (whole v) t bs ys h e = cc
through_then (shown kind back) t bs ys h e = cc

pub through_append : (s t : State) (xs ys : List ℕ) → through s xs ≡ on t → through s (xs ++ ys) ≡ through t ys
through_append s t [] ys e = ap (λ u. through u ys) (same_state s t e)
through_append s t (b ∷ bs) ys e = through_then (step s b) t bs ys (λ u. through_append u t bs ys) e

-- what was found, by what a byte makes of the item
abbrev pub found_by : ℕ → ℕ → ℕ → State → ℕ → List ℕ → Step → Found
found_by limit from n s b rest r = elim r [
  | on t ↦ found_from limit from (n + 1) t rest
  | whole v ↦ value v from (if is_behind s b then from + n else from + n + 1)
  | shown kind back ↦ bad kind (from + n - back)
]

pub has_room : (limit n : ℕ) (c : Bool) → n < limit → (c && nat_le limit n) ≡ false
has_room limit n c h = and_right c (nat_le limit n) (lt-leb limit n h)

module _ (limit from : ℕ) where
  -- the byte is in reach: it is behind the item, or the item has room
  pub found_next : (n : ℕ) (s : State) (b : ℕ) (rest : List ℕ) → (not (is_behind s b) && nat_le limit n) ≡ false
      → found_from limit from n s (b ∷ rest) ≡ found_by limit from n s b rest (step s b)
  found_next n s b rest e = ap (λ c. if c then bad TooLong (from + n) else found_by limit from n s b rest (step s b)) e

  pub found_at : (s : State) (rest : List ℕ) (n m : ℕ) → n ≡ m → found_from limit from n s rest ≡ found_from limit from m s rest
  found_at s rest n m e = ap (λ k. found_from limit from k s rest) e

  module _ (n : ℕ) (s : State) (b : ℕ) (l : n < limit) where
    found_then : (t : State) (rest : List ℕ) → step s b ≡ on t
        → found_from limit from n s (b ∷ rest) ≡ found_from limit from (n + 1) t rest
    found_then t rest e = found_next n s b rest (has_room limit n (not (is_behind s b)) l) ∙ ap (found_by limit from n s b rest) e

    -- over bytes inside the longest item
    found_more : (t : State) (bs rest : List ℕ) (r : Step)
        → ((u : State) → through u bs ≡ on t
        → found_from limit from (n + 1) u (bs ++ rest) ≡ found_from limit from (n + 1 + length bs) t rest)
        → step s b ≡ r → proceed r (λ u. through u bs) ≡ on t
        → found_from limit from n s (b ∷ (bs ++ rest)) ≡ found_from limit from (n + 1 + length bs) t rest
    found_more t bs rest (on u) h is e = found_then u (bs ++ rest) is ∙ h u e
    found_more t bs rest (whole v) h is e = cc
    found_more t bs rest (shown kind back) h is e = cc

  pub found_through : (n : ℕ) (s t : State) (xs rest : List ℕ) → through s xs ≡ on t → n + length xs ≤ limit
      → found_from limit from n s (xs ++ rest) ≡ found_from limit from (n + length xs) t rest
  found_through n s t [] rest e h = ap (λ u. found_from limit from n u rest) (same_state s t e) ∙ found_at t rest n (n + 0) (omega arith)
  found_through n s t (b ∷ bs) rest e h =
      found_more n s b (omega (arith, h)) t bs rest (step s b) (λ u k. found_through (n + 1) u t bs rest k (omega (arith, h))) refl e
      ∙ found_at t rest (n + 1 + length bs) (n + suc (length bs)) (omega arith)
