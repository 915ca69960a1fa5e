-- Counting: numbers that are all in a list are no more than it has, and what a test leaves and what it doesn't are all.
use Rattle.std.proofs.Common.{
  ◌≡◌,
  ℕ,
  suc,
  ◌+◌,
  ◌≤◌,
  nat_eq,
  ◌||◌,
  List,
  [],
  ◌∷◌,
  ◌++◌,
  length,
  Bool,
  true,
  false,
  not,
  if◌then◌else◌,
  refl,
  sym,
  ap,
  subst,
  ◌∙◌,
  arith,
  length-append,
}
use Rattle.line_theory.specs.Lists.{Every, has, chosen, Distinct, missing_in}
use Rattle.doc_theory.specs.Histories.{Row, blocks}
use Rattle.line_theory.proofs.Lists.{no, test_equal, test_back, not_either, has_join}

has_split : (n : ℕ) (ys : List ℕ) → has n ys ≡ true → (p : List ℕ) × ((q : List ℕ) × (ys ≡ p ++ (n ∷ q)))
has_split n [] h = no h
has_split n (y ∷ ys) h = go (nat_eq n y) refl (has_split n ys) h
  where
    go : (b : Bool) → nat_eq n y ≡ b → (has n ys ≡ true → (p : List ℕ) × ((q : List ℕ) × (ys ≡ p ++ (n ∷ q)))) → (b || has n ys) ≡ true
        → (p : List ℕ) × ((q : List ℕ) × (y ∷ ys ≡ p ++ (n ∷ q)))
    go true e more k = ([], (ys, ap (λ z. z ∷ ys) (sym (test_equal n y e))))
    go false e more k = let r = more k in (y ∷ r.0, (r.1.0, ap (λ z. y ∷ z) r.1.1))

has_other : (m n : ℕ) (p q : List ℕ) → nat_eq m n ≡ false → has m (p ++ (n ∷ q)) ≡ true → has m (p ++ q) ≡ true
has_other m n p q e h = has_join m p q ∙ ap (λ t. has m p || (t || has m q)) (sym e) ∙ sym (has_join m p (n ∷ q)) ∙ h

every_other : (x : ℕ) (xs p q : List ℕ) → has x xs ≡ false → Every (λ n. has n (p ++ (x ∷ q)) ≡ true) xs
    → Every (λ n. has n (p ++ q) ≡ true) xs
every_other x [] p q f h = tt
every_other x (m ∷ xs) p q f h = let k = not_either (nat_eq x m) (has x xs) f in (
  has_other m x p q (test_back x m k.0) h.0,
  every_other x xs p q k.1 h.1,
)

-- different numbers that are all in a list are no more than it has
pub no_more : (xs ys : List ℕ) → Distinct xs → Every (λ n. has n ys ≡ true) xs → length xs ≤ length ys
no_more [] ys d h = omega arith
no_more (x ∷ xs) ys d h =
    let s = has_split x ys h.0 in
    let k = no_more xs (s.0 ++ s.1.0) d.1 (every_other x xs s.0 s.1.0 d.0 (subst (λ z. Every (λ n. has n z ≡ true) xs) s.1.1 h.1)) in
    let a = length-append s.0 s.1.0 in
    let b = length-append s.0 (x ∷ s.1.0) in
    let e : length ys ≡ length (s.0 ++ (x ∷ s.1.0)) = ap length s.1.1 in
    omega (arith, k, a, b, e)

absent_chosen : (p : ℕ → Bool) (n : ℕ) (xs : List ℕ) → has n xs ≡ false → has n (chosen p xs) ≡ false
absent_chosen p n [] h = refl
absent_chosen p n (x ∷ xs) h = go (p x) (not_either (nat_eq n x) (has n xs) h) (absent_chosen p n xs)
  where
    go : (b : Bool) → (nat_eq n x ≡ false) × (has n xs ≡ false) → (has n xs ≡ false → has n (chosen p xs) ≡ false)
        → has n (if b then x ∷ chosen p xs else chosen p xs) ≡ false
    go true k more = λ i. k.0 i || more k.1 i
    go false k more = more k.1

pub distinct_chosen : (p : ℕ → Bool) (xs : List ℕ) → Distinct xs → Distinct (chosen p xs)
distinct_chosen p [] h = tt
distinct_chosen p (x ∷ xs) h = go (p x) (distinct_chosen p xs h.1)
  where
    go : (b : Bool) → Distinct (chosen p xs) → Distinct (if b then x ∷ chosen p xs else chosen p xs)
    go true k = (absent_chosen p x xs h.0, k)
    go false k = k

pub chosen_pass : (p : ℕ → Bool) (xs : List ℕ) → Every (λ n. p n ≡ true) (chosen p xs)
chosen_pass p [] = tt
chosen_pass p (x ∷ xs) = go (p x) refl (chosen_pass p xs)
  where
    go : (b : Bool) → p x ≡ b → Every (λ n. p n ≡ true) (chosen p xs)
        → Every (λ n. p n ≡ true) (if b then x ∷ chosen p xs else chosen p xs)
    go true e k = (e, k)
    go false e k = k

-- what is there isn't missing
pub none_missing : (new xs : List ℕ) → Every (λ n. has n new ≡ true) xs → length (missing_in new xs) ≡ 0
none_missing new [] h = refl
none_missing new (x ∷ xs) h = ap (λ b. length (if not b then x ∷ missing_in new xs else missing_in new xs)) h.0 ∙ none_missing new xs h.1

-- what one test doesn't leave is what another doesn't, and of what that leaves what the first doesn't
pub missing_more : (p q : ℕ → Bool) (xs : List ℕ)
    → length (chosen (λ n. not (q n)) xs) ≤ length (chosen (λ n. not (p n)) xs) + length (chosen (λ n. not (q n)) (chosen p xs))
missing_more p q [] = omega arith
missing_more p q (x ∷ xs) = go (p x) (q x) refl (missing_more p q xs)
  where
    go : (b c : Bool) → q x ≡ c
        → length (chosen (λ n. not (q n)) xs) ≤ length (chosen (λ n. not (p n)) xs) + length (chosen (λ n. not (q n)) (chosen p xs))
        → length (if not c then x ∷ chosen (λ n. not (q n)) xs else chosen (λ n. not (q n)) xs)
        ≤ length (if not b then x ∷ chosen (λ n. not (p n)) xs else chosen (λ n. not (p n)) xs) + length
        (chosen (λ n. not (q n)) (if b then x ∷ chosen p xs else chosen p xs))
    go true true e h = subst (λ c. length (chosen (λ n. not (q n)) xs) ≤ length (chosen (λ n. not (p n)) xs) + length
        (if not c then x ∷ chosen (λ n. not (q n)) (chosen p xs) else chosen (λ n. not (q n)) (chosen p xs))) (sym e) h
    go true false e h = subst (λ c. suc (length (chosen (λ n. not (q n)) xs)) ≤ length (chosen (λ n. not (p n)) xs) + length
        (if not c then x ∷ chosen (λ n. not (q n)) (chosen p xs) else chosen (λ n. not (q n)) (chosen p xs))) (sym e) (omega (arith, h))
    go false true e h = omega (arith, h)
    go false false e h = omega (arith, h)

-- rows that stay, and blocks of rows that go
pub stay_and_go : {State : Type 0} (p : ℕ → Bool) (rs : List (Row State))
    → length (chosen (λ r. p r.block) rs) + length (chosen (λ n. not (p n)) (blocks rs)) ≡ length rs
stay_and_go p [] = refl
stay_and_go p (r ∷ rs) = go (p r.block) (stay_and_go p rs)
  where
    go : (b : Bool) → length (chosen (λ r. p r.block) rs) + length (chosen (λ n. not (p n)) (blocks rs)) ≡ length rs
        → length (if b then r ∷ chosen (λ r. p r.block) rs else chosen (λ r. p r.block) rs) + length (if not b then r.block
        ∷ chosen (λ n. not (p n)) (blocks rs) else chosen (λ n. not (p n)) (blocks rs)) ≡ suc (length rs)
    go true h = omega (arith, h)
    go false h = omega (arith, h)

pub blocks_chosen : {State : Type 0} (p : ℕ → Bool) (rs : List (Row State)) → blocks (chosen (λ r. p r.block) rs) ≡ chosen p (blocks rs)
blocks_chosen p [] = refl
blocks_chosen p (r ∷ rs) = go (p r.block) (blocks_chosen p rs)
  where
    go : (b : Bool) → blocks (chosen (λ r. p r.block) rs) ≡ chosen p (blocks rs)
        → blocks (if b then r ∷ chosen (λ r. p r.block) rs else chosen (λ r. p r.block) rs)
        ≡ (if b then r.block ∷ chosen p (blocks rs) else chosen p (blocks rs))
    go true h = ap (λ z. r.block ∷ z) h
    go false h = h
