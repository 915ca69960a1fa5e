-- Names that are taken, and names that are fresh.
use Rattle.std.proofs.Common.{◌≡◌, ℕ, zero, suc, ◌+◌, ◌^◌, ◌<◌, ◌≤◌, Bool, true, false, ◌||◌, if◌then◌else◌, List, [], ◌∷◌, ◌++◌, map, length, decimal, Some, None, is_some, ◌⊎◌, inl, inr, refl, sym, ap, ◌∙◌, true≢false, arith}
use Rattle.std.proofs.lemmas.Bool.{cases_lt}
use Rattle.fol_theory.specs.Syntax.{is_name}
use Rattle.fol_theory.specs.Slots.{Slot, names, from_name}
use Rattle.env_theory.specs.Declarations.{Declaration, name_of, find}
use Rattle.tactic_theory.specs.Names.{is_among, is_taken, numbered, fresh, number_of, hypothesis_named}
use Rattle.tactic_theory.proofs.Fresh.{fresh_free}
use Rattle.evidence_core.proofs.Looked.{name_turned}

-- ---- the newest slot of a name

slot_taken : (n : List ℕ) (x : Slot) (c d : List Slot) → from_name n c ≡ x ∷ d → is_among n (names c) ≡ true
slot_taken n x [] d e = absurd cc
slot_taken n x (y ∷ c) d e = go (is_name n y.name) (name_turned n y.name) e (slot_taken n x c d)
  where
    go : (q : Bool) → q ≡ is_name y.name n → (if is_name y.name n then y ∷ c else from_name n c) ≡ x ∷ d
        → (from_name n c ≡ x ∷ d → is_among n (names c) ≡ true) → (q || is_among n (names c)) ≡ true
    go true q p f = refl
    go false q p f = f (ap (λ t. if t then y ∷ c else from_name n c) q ∙ p)

none_taken : (n : List ℕ) (c : List Slot) → from_name n c ≡ [] → is_among n (names c) ≡ false
none_taken n [] e = refl
none_taken n (y ∷ c) e = go (is_name n y.name) (name_turned n y.name) e (none_taken n c)
  where
    go : (q : Bool) → q ≡ is_name y.name n → (if is_name y.name n then y ∷ c else from_name n c) ≡ []
        → (from_name n c ≡ [] → is_among n (names c) ≡ false) → (q || is_among n (names c)) ≡ false
    go true q p f = let w : y ∷ c ≡ [] = ap (λ t. if t then y ∷ c else from_name n c) q ∙ p in absurd cc
    go false q p f = f (ap (λ t. if t then y ∷ c else from_name n c) q ∙ p)

declared_taken : (n : List ℕ) (E : List Declaration) → is_some (find E n) ≡ is_among n (map name_of E)
declared_taken n [] = refl
declared_taken n (d ∷ E) = go (is_name (name_of d) n) (name_turned (name_of d) n) (declared_taken n E)
  where
    go : (q : Bool) → q ≡ is_name n (name_of d) → is_some (find E n) ≡ is_among n (map name_of E)
        → is_some (if q then Some d else find E n) ≡ (is_name n (name_of d) || is_among n (map name_of E))
    go true q f = ap (λ t. t || is_among n (map name_of E)) q
    go false q f = f ∙ ap (λ t. t || is_among n (map name_of E)) q

pub taken_slot : (E : List Declaration) (c d : List Slot) (n : List ℕ) (x : Slot) → from_name n c ≡ x ∷ d → is_taken E c n ≡ true
taken_slot E c d n x e = ap (λ t. t || is_among n (map name_of E)) (slot_taken n x c d e)

pub taken_declared : (E : List Declaration) (c : List Slot) (n : List ℕ) → from_name n c ≡ [] → is_taken E c n ≡ is_some (find E n)
taken_declared E c n e = ap (λ t. t || is_among n (map name_of E)) (none_taken n c e) ∙ sym (declared_taken n E)

pub ruleset taking = (taken_slot, taken_declared)

-- ---- the hypothesis of a name

pub number_none : (c : List Slot) (n : List ℕ) → from_name n c ≡ [] → hypothesis_named c n ≡ None
number_none [] n e = refl
number_none (y ∷ c) n e = go (is_name n y.name) (name_turned n y.name) e (number_none c n)
  where
    go : (q : Bool) → q ≡ is_name y.name n → (if is_name y.name n then y ∷ c else from_name n c) ≡ []
        → (from_name n c ≡ [] → hypothesis_named c n ≡ None) → (if q then number_of y.entry c else hypothesis_named c n) ≡ None
    go true q p f = let w : y ∷ c ≡ [] = ap (λ t. if t then y ∷ c else from_name n c) q ∙ p in absurd cc
    go false q p f = f (ap (λ t. if t then y ∷ c else from_name n c) q ∙ p)

pub number_found : (c d : List Slot) (n : List ℕ) (x : Slot) → from_name n c ≡ x ∷ d → hypothesis_named c n ≡ number_of x.entry d
number_found [] d n x e = absurd cc
number_found (y ∷ c) d n x e = go (is_name n y.name) (name_turned n y.name) e (number_found c d n x)
  where
    first_is : (x z : Slot) (xs zs : List Slot) → x ∷ xs ≡ z ∷ zs → (x ≡ z) × (xs ≡ zs)
    first_is x z xs zs e = (cc, cc)

    go : (q : Bool) → q ≡ is_name y.name n → (if is_name y.name n then y ∷ c else from_name n c) ≡ x ∷ d
        → (from_name n c ≡ x ∷ d → hypothesis_named c n ≡ number_of x.entry d)
        → (if q then number_of y.entry c else hypothesis_named c n) ≡ number_of x.entry d
    go true q p f =
        let same = first_is y x c d (ap (λ t. if t then y ∷ c else from_name n c) q ∙ p) in
        ap (λ z. number_of (z.entry) c) same.0 ∙ ap (number_of (x.entry)) same.1
    go false q p f = f (ap (λ t. if t then y ∷ c else from_name n c) q ∙ p)

-- ---- fresh names

-- a name that isn't taken is fresh
pub fresh_kept : (E : List Declaration) (c : List Slot) (x : List ℕ) → is_taken E c x ≡ false → fresh E c x ≡ x
fresh_kept E c x e = ap (λ t. if t then numbered (is_taken E c) (length c + length E) 0 x else x) e

module _ (taken : List ℕ → Bool) (x : List ℕ) where
  stops : (m k d : ℕ) → d ≤ m → taken (x ++ decimal (k + d)) ≡ false
      → ((j : ℕ) → k ≤ j → j < k + d → taken (x ++ decimal j) ≡ true) → numbered taken m k x ≡ x ++ decimal (k + d)
  stops zero k d h e f = let same : k ≡ k + d = omega (arith, h) in ap (λ j. x ++ decimal j) same
  stops (suc m) k zero h e f =
      let same : k ≡ k + 0 = omega arith in
      ap (λ t. if t then numbered taken m (suc k) x else x ++ decimal k) (ap (λ j. taken (x ++ decimal j)) same ∙ e)
      ∙ ap (λ j. x ++ decimal j) same
  stops (suc m) k (suc d) h e f =
      let same : k + suc d ≡ suc k + d = omega arith in
      ap (λ t. if t then numbered taken m (suc k) x else x ++ decimal k) (f k (omega arith) (omega arith))
      ∙ stops m (suc k) d (omega (arith, h)) (ap (λ j. taken (x ++ decimal j)) (sym same) ∙ e)
      (λ j l s. f j (omega (arith, l)) (omega (arith, s, same)))
      ∙ ap (λ j. x ++ decimal j) (sym same)

  ends : (m k : ℕ) → ((j : ℕ) → k ≤ j → j ≤ k + m → taken (x ++ decimal j) ≡ true) → taken (numbered taken m k x) ≡ true
  ends zero k f = f k (omega arith) (omega arith)
  ends (suc m) k f =
      ap (λ t. taken (if t then numbered taken m (suc k) x else x ++ decimal k)) (f k (omega arith) (omega arith))
      ∙ ends m (suc k) (λ j l s. f j (omega (arith, l)) (omega (arith, s)))

-- the name with the first number with which it isn't taken is fresh
pub fresh_numbered : (E : List Declaration) (c : List Slot) (x : List ℕ) (k : ℕ) → k < 2 ^ 64 → is_taken E c x ≡ true
    → is_taken E c (x ++ decimal k) ≡ false → ((j : ℕ) → j < k → is_taken E c (x ++ decimal j) ≡ true) → fresh E c x ≡ x ++ decimal k
fresh_numbered E c x k b t e f = ap (λ t. if t then numbered (is_taken E c) m 0 x else x) t ∙ go (cases_lt m k)
  where
    m : ℕ
    m = length c + length E

    is : fresh E c x ≡ numbered (is_taken E c) m 0 x
    is = ap (λ t. if t then numbered (is_taken E c) m 0 x else x) t

    go : (m < k) ⊎ (k ≤ m) → numbered (is_taken E c) m 0 x ≡ x ++ decimal k
    go (inl l) = absurd (true≢false (sym (ends (is_taken E c) x m 0 (λ j p s. f j (omega (arith, s, l)))) ∙ ap (is_taken E c) (sym is)
        ∙ fresh_free E c x (omega (arith, l, b))))
    go (inr l) =
        let same : 0 + k ≡ k = omega arith in
        stops (is_taken E c) x m 0 k l (ap (λ j. is_taken E c (x ++ decimal j)) same ∙ e)
        (λ j p s. f j (omega (arith, s, same))) ∙ ap (λ j. x ++ decimal j) same

-- a number more that is taken
pub one_try_more : (E : List Declaration) (c : List Slot) (x : List ℕ) (k : ℕ) → is_taken E c (x ++ decimal k) ≡ true
    → ((j : ℕ) → j < k → is_taken E c (x ++ decimal j) ≡ true) → (j : ℕ) → j < k + 1 → is_taken E c (x ++ decimal j) ≡ true
one_try_more E c x k h each j l = by (cases_lt j k)
  where
    by : (j < k) ⊎ (k ≤ j) → is_taken E c (x ++ decimal j) ≡ true
    by (inl m) = each j m
    by (inr m) = let same : j ≡ k = omega (arith, l, m) in ap (λ j. is_taken E c (x ++ decimal j)) same ∙ h
