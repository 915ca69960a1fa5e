-- Ids that stand in different parts of a list without repetitions.
use Rattle.std.proofs.Common.{◌≡◌, ◌⊎◌, inl, inr, ℕ, nat_eq, ◌||◌, List, [], ◌∷◌, ◌++◌, map, Bool, true, false, refl, sym, ap, ◌∙◌, subst}
use Rattle.line_theory.specs.Lists.{has, Distinct, Every}
use Rattle.line_theory.proofs.Lists.{no, absent_parts, either_true, test_equal, test_same, has_right}
use Rattle.doc_theory.specs.Documents.{Entry, set, fall}
use Rattle.doc_store.proofs.Filled.{Agrees}

abbrev pub ids_of : List Entry → List ℕ
ids_of es = map (λ e. e.id) es

absent_at : (n m : ℕ) (q : List ℕ) → nat_eq n m ≡ true → has m q ≡ false → has n q ≡ false
absent_at n m q e h = subst (λ z. has z q ≡ false) (sym (test_equal n m e)) h

-- what stands in the first part isn't in the second
pub apart : (p q : List ℕ) → Distinct (p ++ q) → (n : ℕ) → has n p ≡ true → has n q ≡ false
apart [] q d n h = no h
apart (m ∷ ms) q d n h = at_first (either_true (nat_eq n m) (has n ms) h) (λ k. apart ms q d.1 n k)
  where
    at_first : (nat_eq n m ≡ true) ⊎ (has n ms ≡ true) → (has n ms ≡ true → has n q ≡ false) → has n q ≡ false
    at_first (inl e) more = absent_at n m q e (absent_parts m ms q d.0).1
    at_first (inr k) more = more k

other : (a : Bool) → (a ≡ true → false ≡ true) → a ≡ false
other true f = sym (f refl)
other false f = refl

-- and the other way round
pub apart_back : (p q : List ℕ) → Distinct (p ++ q) → (n : ℕ) → has n q ≡ true → has n p ≡ false
apart_back p q d n h = other (has n p) (λ k. sym (apart p q d n k) ∙ h)

-- a number that isn't in a list is none of its numbers
pub not_at : (n m : ℕ) (b : List ℕ) → has m b ≡ true → has n b ≡ false → nat_eq m n ≡ false
not_at n m b h k = other (nat_eq m n) (λ e. sym k ∙ subst (λ z. has z b ≡ true) (test_equal m n e) h)

-- what holds of all holds of each
pub within : (P : ℕ → Type 0) (xs : List ℕ) → Every P xs → (n : ℕ) → has n xs ≡ true → P n
within P [] h n m = no m
within P (x ∷ xs) h n m = at_first (either_true (nat_eq n x) (has n xs) m) (λ k. within P xs h.1 n k)
  where
    at_first : (nat_eq n x ≡ true) ⊎ (has n xs ≡ true) → (has n xs ≡ true → P n) → P n
    at_first (inl e) more = subst P (sym (test_equal n x e)) h.0
    at_first (inr k) more = more k

-- ---- entries that stay, and entries that fall

pub here : (n : ℕ) (ns : List ℕ) → has n (n ∷ ns) ≡ true
here n ns = ap (λ z. z || has n ns) (test_same n)

pub there : (n m : ℕ) (ns : List ℕ) → has n ns ≡ true → has n (m ∷ ns) ≡ true
there n m ns h = has_right n (m ∷ []) ns h

pub same_part : (f g : ℕ → Entry) (es : List Entry) → Agrees f es → ((n : ℕ) → has n (ids_of es) ≡ true → g n ≡ f n) → Agrees g es
same_part f g [] h k = tt
same_part f g (e ∷ es) h k = (
  k e.id (here e.id (ids_of es)) ∙ h.0,
  same_part f g es h.1 (λ n m. k n (there n e.id (ids_of es) m)),
)

pub fallen_part : (f g : ℕ → Entry) (es : List Entry) → Agrees f es
    → ((n : ℕ) → has n (ids_of es) ≡ true → g n ≡ set (λ t. false) (f n)) → Agrees g (fall true es)
fallen_part f g [] h k = tt
fallen_part f g (e ∷ es) h k = (
  k e.id (here e.id (ids_of es)) ∙ ap (set (λ t. false)) h.0,
  fallen_part f g es h.1 (λ n m. k n (there n e.id (ids_of es) m)),
)
