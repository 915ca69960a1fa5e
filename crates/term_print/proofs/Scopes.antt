-- Names that are kept in two lists.
use Rattle.std.proofs.Common.{◌≡◌, ℕ, zero, suc, ◌+◌, ◌-◌, ◌^◌, ◌<◌, ◌≤◌, ◌||◌, ◌⊎◌, inl, inr, List, [], ◌∷◌, ◌++◌, length, get_or, Bool, true, false, refl, sym, ap, ◌∙◌, arith}
use Rattle.std.specs.Prelude.{nat_eq}
use Rattle.std.specs.Cmp.Lexicographic.{pointwise}
use Rattle.std.specs.Fmt.{decimal}
use Rattle.std.proofs.lemmas.Bool.{cases_lt}
use Rattle.std.proofs.lemmas.Fmt.{decimal-digits_of, decimal_digit}
use Rattle.elab_theory.specs.Sentences.{is_among}
use Rattle.print_theory.specs.Names.{name_of, numeral, numbered}
use Rattle.print_theory.specs.Printing.{bound_name}
use Rattle.print_theory.proofs.Picks.{among_append, not_in_first, or_left, picked_unused}
use Rattle.term_print.specs.Output.{Names, names_onto, all_names, used_names}

pub onto_push : (xs ys : List (List ℕ)) (y : List ℕ) → names_onto xs (ys ++ (y ∷ [])) ≡ y ∷ names_onto xs ys
onto_push xs [] y = refl
onto_push xs (z ∷ ys) y = onto_push (z ∷ xs) ys y

-- a binder more is open
abbrev pub opened : List ℕ → Names → Names
opened y s = record { bound = s.bound ++ (y ∷ []); outer = s.outer; taken = s.taken }

or_swap : (s t u : Bool) → (s || (t || u)) ≡ ((t || s) || u)
or_swap true true u = refl
or_swap true false u = refl
or_swap false true u = refl
or_swap false false u = refl

pub onto_among : (x : List ℕ) (xs ys : List (List ℕ)) → is_among x (names_onto xs ys) ≡ (is_among x ys || is_among x xs)
onto_among x xs [] = refl
onto_among x xs (y ∷ ys) = onto_among x (y ∷ xs) ys ∙ or_swap (is_among x ys) (pointwise nat_eq x y) (is_among x xs)

pub used_is : (x : List ℕ) (s : Names) → is_among x (used_names s) ≡ ((is_among x s.bound || is_among x s.outer) || is_among x s.taken)
used_is x s = among_append x (all_names s) s.taken ∙ ap (λ t. t || is_among x s.taken) (onto_among x s.outer s.bound)

-- a variable outside, and a bound one
pub name_outer : (xs ys : List (List ℕ)) (i : ℕ) → length ys ≤ i → name_of (names_onto xs ys) i ≡ name_of xs (i - length ys)
name_outer xs [] i h = let n : i ≡ i - 0 = omega arith in ap (name_of xs) n
name_outer xs (y ∷ ys) i h =
    let n : i - length ys ≡ suc (i - length (y ∷ ys)) = omega (arith, h) in
    name_outer (y ∷ xs) ys i (omega (arith, h)) ∙ ap (name_of (y ∷ xs)) n

pub name_bound : (xs ys : List (List ℕ)) (i : ℕ) (d : List ℕ) → i < length ys → name_of (names_onto xs ys) i
    ≡ get_or ys (length ys - 1 - i) d
name_bound xs [] i d h = absurd (omega (arith, h))
name_bound xs (y ∷ ys) i d h = by (cases_lt i (length ys)) (name_bound (y ∷ xs) ys i d)
  where
    by : (i < length ys) ⊎ (length ys ≤ i) → (i < length ys → name_of (names_onto (y ∷ xs) ys) i ≡ get_or ys (length ys - 1 - i)
        d) → name_of (names_onto (y ∷ xs) ys) i ≡ get_or (y ∷ ys) (length (y ∷ ys) - 1 - i) d
    by (inl l) r = let n : length (y ∷ ys) - 1 - i ≡ suc (length ys - 1 - i) = omega (arith, l) in r l ∙
        ap (λ n. get_or (y ∷ ys) n d) (sym n)
    by (inr l) r =
        let n : i - length ys ≡ 0 = omega (arith, l, h) in
        let m : length (y ∷ ys) - 1 - i ≡ 0 = omega (arith, l, h) in
        name_outer (y ∷ xs) ys i l ∙ ap (name_of (y ∷ xs)) n ∙ ap (λ n. get_or (y ∷ ys) n d) (sym m)

pub numeral_is : (n : ℕ) → n < 2 ^ 64 → numeral n ≡ decimal n
numeral_is zero h = sym (decimal_digit 0 (omega arith))
numeral_is (suc n) h = sym (decimal-digits_of (suc n) (omega arith) h)

pub name_in : (xs : List (List ℕ)) (i : ℕ) (d : List ℕ) → i < length xs → name_of xs i ≡ get_or xs i d
name_in [] i d h = absurd (omega (arith, h))
name_in (x ∷ xs) zero d h = refl
name_in (x ∷ xs) (suc i) d h = name_in xs i d (omega (arith, h))

pub name_none : (xs : List (List ℕ)) (i : ℕ) → length xs ≤ i → name_of xs i ≡ []
name_none [] i h = refl
name_none (x ∷ xs) zero h = absurd (omega (arith, h))
name_none (x ∷ xs) (suc i) h = name_none xs i (omega (arith, h))

pub used_bound : (x : List ℕ) (s : Names) → is_among x s.bound ≡ true → is_among x (used_names s) ≡ true
used_bound x s h = used_is x s ∙ ap (λ t. (t || is_among x s.outer) || is_among x s.taken) h

pub used_outer : (x : List ℕ) (s : Names) → is_among x s.bound ≡ false → is_among x s.outer ≡ true → is_among x (used_names s) ≡ true
used_outer x s g h = used_is x s ∙ ap (λ t. (t || is_among x s.outer) || is_among x s.taken) g ∙ ap (λ t. t || is_among x s.taken) h

pub used_taken : (x : List ℕ) (s : Names) → is_among x s.bound ≡ false → is_among x s.outer ≡ false → is_among x (used_names s)
    ≡ is_among x s.taken
used_taken x s g h = used_is x s ∙ ap (λ t. (t || is_among x s.outer) || is_among x s.taken) g ∙ ap (λ t. t || is_among x s.taken) h

-- a number more that is used
pub one_try_more : (x : List ℕ) (used : List (List ℕ)) (k : ℕ) → is_among (numbered x k) used ≡ true →
    ((j : ℕ) → j < k → is_among (numbered x j) used ≡ true) → (j : ℕ) → j < k + 1 → is_among (numbered x j) used ≡ true
one_try_more x used k h each j l = by (cases_lt j k)
  where
    by : (j < k) ⊎ (k ≤ j) → is_among (numbered x j) used ≡ true
    by (inl m) = each j m
    by (inr m) = let same : j ≡ k = omega (arith, l, m) in ap (λ j. is_among (numbered x j) used) same ∙ h

-- what is picked is no open binder's name
pub picked_new : (x : List ℕ) (s : Names) → is_among (bound_name (all_names s) s.taken x) s.bound ≡ false
picked_new x s =
    let y = bound_name (all_names s) s.taken x in
    or_left (is_among y s.bound) (is_among y s.outer) (sym (onto_among y s.outer s.bound) ∙ not_in_first y (all_names s) s.taken
    (picked_unused x (used_names s)))
