-- A fresh name isn't taken, and each row keeps the names of a context distinct.
use Rattle.fol_theory.specs.Slots.{Slot, entries, names, unless, slots_without}
use Rattle.fol_theory.specs.Syntax.{is_name}
use Rattle.env_theory.specs.Declarations.{Declaration, name_of}
use Rattle.std.proofs.Common.{
  ◌≡◌,
  ℕ,
  zero,
  suc,
  ◌+◌,
  ◌<◌,
  ◌≤◌,
  ◌^◌,
  Bool,
  true,
  false,
  ◌||◌,
  if◌then◌else◌,
  ◌==◌,
  List,
  [],
  ◌∷◌,
  ◌++◌,
  map,
  length,
  Decides,
  refl,
  sym,
  ap,
  ◌∙◌,
  arith,
  ◌⊎◌,
  inl,
  inr,
  true≢false,
  length-append,
}
use Rattle.std.specs.Prelude.{decimal}
use Rattle.std.specs.Cmp.Lexicographic.{bytes_decides}
use Rattle.std.proofs.lemmas.Fmt.{decimal_injective}
use Rattle.std.proofs.lemmas.Bool.Decides.{Decides-eqb}
use Rattle.fol_theory.specs.Contexts.{Entry, variable, hypothesis, count}
use Rattle.tactic_theory.specs.Names.{is_among, is_taken, numbered, fresh, AreApart}

-- ---- a name of a list

-- x is one of the list
abbrev Member : {A : Type 0} → A → List A → Type 0
Member x [] = ⊥
Member x (y ∷ ys) = (x ≡ y) ⊎ Member x ys

among_member : (n : List ℕ) (ms : List (List ℕ)) → is_among n ms ≡ true → Member n ms
among_member n [] e = absurd cc
among_member n (m ∷ ms) e = go (is_name n m) (bytes_decides n m) (among_member n ms) e
  where
    go : (r : Bool) → Decides r (n ≡ m) → (is_among n ms ≡ true → Member n ms) → (r || is_among n ms) ≡ true → (n ≡ m) ⊎ Member n ms
    go true d f q = inl (d.0 refl)
    go false d f q = inr (f q)

either_true : (a b : Bool) → (a || b) ≡ true → (a ≡ true) ⊎ (b ≡ true)
either_true true b e = inl refl
either_true false b e = inr e

member_left : {A : Type 0} (x : A) (xs ys : List A) → Member x xs → Member x (xs ++ ys)
member_left x (y ∷ xs) ys (inl e) = inl e
member_left x (y ∷ xs) ys (inr m) = inr (member_left x xs ys m)
member_left x [] ys m = absurd m

member_right : {A : Type 0} (x : A) (xs ys : List A) → Member x ys → Member x (xs ++ ys)
member_right x [] ys m = m
member_right x (y ∷ xs) ys m = inr (member_right x xs ys m)

taken_member : (E : List Declaration) (c : List Slot) (n : List ℕ) → is_taken E c n ≡ true → Member n (names c ++ map name_of E)
taken_member E c n e = go (either_true (is_among n (names c)) (is_among n (map name_of E)) e)
  where
    go : (is_among n (names c) ≡ true) ⊎ (is_among n (map name_of E) ≡ true) → Member n (names c ++ map name_of E)
    go (inl h) = member_left n (names c) (map name_of E) (among_member n (names c) h)
    go (inr h) = member_right n (names c) (map name_of E) (among_member n (map name_of E) h)

-- a list without one of its members has the others
less_one : {A : Type 0} (x : A) (xs : List A) → Member x xs → (ys : List A) × (length xs ≡ length ys + 1) ×
    ((y : A) → Member y xs → (y ≡ x → ⊥) → Member y ys)
less_one x [] m = absurd m
less_one {A} x (z ∷ xs) (inl e) = (xs, omega arith, keep)
  where
    keep : (y : A) → (y ≡ z) ⊎ Member y xs → (y ≡ x → ⊥) → Member y xs
    keep y (inl q) h = absurd (h (q ∙ sym e))
    keep y (inr q) h = q
less_one {A} x (z ∷ xs) (inr m) = let r = less_one x xs m in (z ∷ r.0, omega (arith, r.1), keep r.0 r.2)
  where
    keep : (ys : List A) → ((y : A) → Member y xs → (y ≡ x → ⊥) → Member y ys) → (y : A) → (y ≡ z) ⊎ Member y xs → (y ≡ x → ⊥) →
        (y ≡ z) ⊎ Member y ys
    keep ys f y (inl q) h = inl q
    keep ys f y (inr q) h = inr (f y q h)

same_end : (x y z : List ℕ) → x ++ y ≡ x ++ z → y ≡ z
same_end [] y z e = e
same_end (a ∷ x) y z e = same_end x y z (tail_is a (x ++ y) (x ++ z) e)
  where
    tail_is : (a : ℕ) (u v : List ℕ) → a ∷ u ≡ a ∷ v → u ≡ v
    tail_is a u v e = cc

-- of m numbers one isn't taken where at most m names are
pub numbered_free : (taken : List ℕ → Bool) (m k : ℕ) (x : List ℕ) (used : List (List ℕ)) →
    ((j : ℕ) → k ≤ j → j < 2 ^ 64 → taken (x ++ decimal j) ≡ true → Member (x ++ decimal j) used) → length used ≤ m →
    k + m < 2 ^ 64 → taken (numbered taken m k x) ≡ false
numbered_free taken zero k x used f h b = go (taken (x ++ decimal k)) refl used (f k (omega arith) (omega (arith, b))) (omega (arith, h))
  where
    go : (r : Bool) → taken (x ++ decimal k) ≡ r → (used : List (List ℕ)) → (taken (x ++ decimal k) ≡ true →
        Member (x ++ decimal k) used) → length used ≤ 0 → taken (x ++ decimal k) ≡ false
    go false q used f h = q
    go true q [] f h = absurd (f q)
    go true q (u ∷ used) f h = absurd (omega (arith, h))
numbered_free taken (suc m) k x used f h b = go (taken (x ++ decimal k)) refl (λ vs g l. numbered_free taken m (suc k) x vs g l
    (omega (arith, b)))
  where
    differ : (j : ℕ) → suc k ≤ j → j ≡ k → ⊥
    differ j l e = absurd (omega (arith, l, e))

    go : (r : Bool) → taken (x ++ decimal k) ≡ r →
        ((vs : List (List ℕ)) → ((j : ℕ) → suc k ≤ j → j < 2 ^ 64 → taken (x ++ decimal j) ≡ true → Member (x ++ decimal j) vs)
        → length vs ≤ m → taken (numbered taken m (suc k) x) ≡ false) → taken (if r then numbered taken m (suc k) x else x
        ++ decimal k) ≡ false
    go false q ih = q
    go true q ih =
        let r = less_one (x ++ decimal k) used (f k (omega arith) (omega (arith, b)) q) in
        ih r.0 (λ j l s t. r.2 (x ++ decimal j) (f j (omega (arith, l)) s t)
        (λ e. differ j l (decimal_injective j k s (omega (arith, b)) (same_end x (decimal j) (decimal k) e)))) (omega (arith, h, r.1))

length_names : (c : List Slot) → length (names c) ≡ length c
length_names [] = refl
length_names (x ∷ c) = ap suc (length_names c)

length_mapped : {A B : Type 0} (f : A → B) (xs : List A) → length (map f xs) ≡ length xs
length_mapped f [] = refl
length_mapped f (x ∷ xs) = ap suc (length_mapped f xs)

pub fresh_free : (E : List Declaration) (c : List Slot) (x : List ℕ) → length c + length E < 2 ^ 64 → is_taken E c (fresh E c x) ≡ false
fresh_free E c x b = go (is_taken E c x) refl
  where
    long : length (names c ++ map name_of E) ≤ length c + length E
    long = omega (arith, length-append (names c) (map name_of E), length_names c, length_mapped name_of E)

    go : (r : Bool) → is_taken E c x ≡ r → is_taken E c (if r then numbered (is_taken E c) (length c + length E) 0 x else x) ≡ false
    go false q = q
    go true q = numbered_free (is_taken E c) (length c + length E) 0 x (names c ++ map name_of E)
        (λ j l s t. taken_member E c (x ++ decimal j) t) long (omega (arith, b))

-- and each less number is taken
pub numbered_least : (taken : List ℕ → Bool) (m k : ℕ) (x : List ℕ) → (j : ℕ) × (numbered taken m k x ≡ x ++ decimal j) ×
    (k ≤ j) × ((i : ℕ) → k ≤ i → i < j → taken (x ++ decimal i) ≡ true)
numbered_least taken zero k x = (k, refl, omega arith, λ i l s. absurd (omega (arith, l, s)))
numbered_least taken (suc m) k x = go (taken (x ++ decimal k)) refl (numbered_least taken m (suc k) x)
  where
    go : (r : Bool) → taken (x ++ decimal k) ≡ r → (j : ℕ) × (numbered taken m (suc k) x ≡ x ++ decimal j) × (suc k ≤ j) ×
        ((i : ℕ) → suc k ≤ i → i < j → taken (x ++ decimal i) ≡ true) → (j : ℕ) ×
        ((if r then numbered taken m (suc k) x else x ++ decimal k) ≡ x ++ decimal j) × (k ≤ j) ×
        ((i : ℕ) → k ≤ i → i < j → taken (x ++ decimal i) ≡ true)
    go false q h = (k, refl, omega arith, λ i l s. absurd (omega (arith, l, s)))
    go true q h = (h.0, h.1, omega (arith, h.2), λ i l s. at i s (i == k) (Decides-eqb i k) l)
      where
        at : (i : ℕ) → i < h.0 → (v : Bool) → Decides v (i ≡ k) → k ≤ i → taken (x ++ decimal i) ≡ true
        at i s true d l = ap (λ z. taken (x ++ decimal z)) (d.0 refl) ∙ q
        at i s false d l = h.3 i (more i l (λ e. true≢false (sym (d.1 e)))) s
          where
            more : (i : ℕ) → k ≤ i → (i ≡ k → ⊥) → suc k ≤ i
            more i l n = grind arith

-- ---- a context without a hypothesis

not_among : (n m : List ℕ) (ms : List (List ℕ)) → is_among n (m ∷ ms) ≡ false → (is_name n m ≡ false) × (is_among n ms ≡ false)
not_among n m ms e = go (is_name n m) e
  where
    go : (r : Bool) → (r || is_among n ms) ≡ false → (r ≡ false) × (is_among n ms ≡ false)
    go true q = absurd cc
    go false q = (refl, q)

join_not : (n m : List ℕ) (ms : List (List ℕ)) → is_name n m ≡ false → is_among n ms ≡ false → is_among n (m ∷ ms) ≡ false
join_not n m ms p q = ap (λ r. r || is_among n ms) p ∙ q

module _ (i : ℕ) (x : Slot) (c r : List Slot) where
  unless_among : (e : Entry) (n : List ℕ) → is_name n x.name ≡ false → is_among n (names c) ≡ false → is_among n (names r) ≡ false →
      is_among n (names (unless i e x c r)) ≡ false
  unless_among (variable s) n p q k = join_not n x.name (names r) p k
  unless_among (hypothesis a) n p q k = go (i == count (entries c))
    where
      go : (t : Bool) → is_among n (names (if t then c else x ∷ r)) ≡ false
      go true = q
      go false = join_not n x.name (names r) p k

  unless_apart : (e : Entry) → AreApart (names c) → AreApart (names r) → is_among x.name (names r) ≡ false →
      AreApart (names (unless i e x c r))
  unless_apart (variable s) p q k = (k, q)
  unless_apart (hypothesis a) p q k = go (i == count (entries c))
    where
      go : (t : Bool) → AreApart (names (if t then c else x ∷ r))
      go true = p
      go false = (k, q)

pub without_among : (n : List ℕ) (c : List Slot) (i : ℕ) → is_among n (names c) ≡ false → is_among n (names (slots_without c i)) ≡ false
without_among n [] i e = e
without_among n (x ∷ c) i e = let h = not_among n x.name (names c) e in unless_among i x c (slots_without c i) x.entry n h.0 h.1
    (without_among n c i h.1)

pub without_apart : (c : List Slot) (i : ℕ) → AreApart (names c) → AreApart (names (slots_without c i))
without_apart [] i h = h
without_apart (x ∷ c) i h = unless_apart i x c (slots_without c i) x.entry h.1 (without_apart c i h.1) (without_among x.name c i h.0)
