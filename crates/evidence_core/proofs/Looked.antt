-- What the newest slot of a name makes of it.
use Rattle.std.proofs.Common.{◌≡◌, ℕ, suc, ◌<◌, Bool, true, false, List, [], ◌∷◌, Option, Some, None, Decides, refl, sym, ap, subst, ◌∙◌}
use Rattle.std.proofs.Common.{if◌then◌else◌, ◌==◌, inl, inr, option_map, arith}
use Rattle.std.proofs.lemmas.Bool.Decides.{nat_tests}
use Rattle.std.specs.Cmp.Lexicographic.{bytes_decides}
use Rattle.fol_theory.specs.Syntax.{Formula, is_name}
use Rattle.fol_theory.specs.Substitution.{under}
use Rattle.fol_theory.specs.Contexts.{Entry, variable, hypothesis, count, IsHypothesis}
use Rattle.fol_theory.specs.Slots.{Slot, slot, entries, from_name}
use Rattle.fol_theory.proofs.Numbers.{hypothesis_below}
use Rattle.env_theory.specs.Declarations.{Declaration, find}
use Rattle.elab_theory.specs.Locals.{local_of, locals_in, Known, bound, assumed, declared_or_not, farther, known}
use Rattle.tactic_theory.specs.Names.{number_of, hypothesis_named, hypothesis_at}

-- the test on names, with the sides exchanged
pub name_turned : (m n : List ℕ) → is_name m n ≡ is_name n m
name_turned m n = go (is_name m n) (is_name n m) (bytes_decides m n) (bytes_decides n m)
  where
    go : (q r : Bool) → Decides q (m ≡ n) → Decides r (n ≡ m) → q ≡ r
    go true true d e = refl
    go false false d e = refl
    go true false d e = sym (e.1 (sym (d.0 refl)))
    go false true d e = d.1 (sym (e.0 refl))

-- ---- what a name stands for, behind a slot of another name

abbrev further : Entry → Known → Known
further (variable s) k = farther k
further (hypothesis a) k = k

further_declared : (e : Entry) (o : Option Declaration) → further e (declared_or_not o) ≡ declared_or_not o
further_declared (variable s) None = refl
further_declared (variable s) (Some d) = refl
further_declared (hypothesis a) o = refl

further_assumed : (e : Entry) → further e assumed ≡ assumed
further_assumed (variable s) = refl
further_assumed (hypothesis a) = refl

-- a variable
abbrev IsBound : Known → Type 0
IsBound k = (i : ℕ) × (r : List ℕ) × (k ≡ bound i r)

further_bound : (e : Entry) (k : Known) → IsBound k → IsBound (further e k)
further_bound (variable s) k h = (suc h.0, h.1, ap farther h.2)
further_bound (hypothesis a) k h = h

-- the first of two equal lists, and what is behind it
first_is : (x y : Slot) (c d : List Slot) → x ∷ c ≡ y ∷ d → (x ≡ y) × (c ≡ d)
first_is x y c d e = (cc, cc)

module _ (E : List Declaration) (n : List ℕ) where
  known_past : (m : List ℕ) (e : Entry) (c : List Slot) → is_name m n ≡ false → known E (local_of m e ∷ locals_in c) n
      ≡ further e (known E (locals_in c) n)
  known_past m (variable s) c q = ap (λ t. if t then bound 0 s else farther (known E (locals_in c) n)) q
  known_past m (hypothesis a) c q = ap (λ t. if t then assumed else known E (locals_in c) n) q

  variable_here : (m s : List ℕ) (e : Entry) (c : List Slot) → is_name m n ≡ true → e ≡ variable s
      → IsBound (known E (local_of m e ∷ locals_in c) n)
  variable_here m s e c q p = (
    0,
    s,
    ap (λ z. known E (local_of m z ∷ locals_in c) n) p
        ∙ ap (λ t. if t then bound 0 s else farther (known E (locals_in c) n)) q,
  )

  assumed_here : (m : List ℕ) (a : Formula) (e : Entry) (c : List Slot) → is_name m n ≡ true → e ≡ hypothesis a
      → known E (local_of m e ∷ locals_in c) n ≡ assumed
  assumed_here m a e c q p = ap (λ z. known E (local_of m z ∷ locals_in c) n) p
      ∙ ap (λ t. if t then assumed else known E (locals_in c) n) q

  -- no slot has the name
  pub found_none : (c : List Slot) → from_name n c ≡ [] → known E (locals_in c) n ≡ declared_or_not (find E n)
  found_none [] e = refl
  found_none (x ∷ c) e = go (is_name x.name n) refl e (found_none c)
    where
      go : (q : Bool) → is_name x.name n ≡ q → (if q then x ∷ c else from_name n c) ≡ []
          → (from_name n c ≡ [] → known E (locals_in c) n ≡ declared_or_not (find E n))
          → known E (local_of x.name x.entry ∷ locals_in c) n ≡ declared_or_not (find E n)
      go true q p f = absurd cc
      go false q p f = known_past x.name x.entry c q ∙ ap (further x.entry) (f p) ∙ further_declared x.entry (find E n)

  -- the newest slot of the name is a variable
  pub found_variable : (c d : List Slot) (m s : List ℕ) → from_name n c ≡ slot m (variable s) ∷ d → IsBound (known E (locals_in c) n)
  found_variable [] d m s e = absurd cc
  found_variable (x ∷ c) d m s e = go (is_name x.name n) refl e (found_variable c d m s)
    where
      go : (q : Bool) → is_name x.name n ≡ q → (if q then x ∷ c else from_name n c) ≡ slot m (variable s) ∷ d
          → (from_name n c ≡ slot m (variable s) ∷ d → IsBound (known E (locals_in c) n))
          → IsBound (known E (local_of x.name x.entry ∷ locals_in c) n)
      go true q p f = variable_here x.name s x.entry c q (ap (λ y. y.entry) (first_is x (slot m (variable s)) c d p).0)
      go false q p f = subst IsBound (sym (known_past x.name x.entry c q)) (further_bound x.entry (known E (locals_in c) n) (f p))

  -- it is a hypothesis
  pub found_assumed : (c d : List Slot) (m : List ℕ) (a : Formula) → from_name n c ≡ slot m (hypothesis a) ∷ d
      → known E (locals_in c) n ≡ assumed
  found_assumed [] d m a e = absurd cc
  found_assumed (x ∷ c) d m a e = go (is_name x.name n) refl e (found_assumed c d m a)
    where
      go : (q : Bool) → is_name x.name n ≡ q → (if q then x ∷ c else from_name n c) ≡ slot m (hypothesis a) ∷ d
          → (from_name n c ≡ slot m (hypothesis a) ∷ d → known E (locals_in c) n ≡ assumed)
          → known E (local_of x.name x.entry ∷ locals_in c) n ≡ assumed
      go true q p f = assumed_here x.name a x.entry c q (ap (λ y. y.entry) (first_is x (slot m (hypothesis a)) c d p).0)
      go false q p f = known_past x.name x.entry c q ∙ ap (further x.entry) (f p) ∙ further_assumed x.entry

-- its number is that of the older hypotheses
pub found_number : (n : List ℕ) (c d : List Slot) (m : List ℕ) (a : Formula) → from_name n c ≡ slot m (hypothesis a) ∷ d
    → hypothesis_named c n ≡ Some (count (entries d))
found_number n [] d m a e = absurd cc
found_number n (x ∷ c) d m a e = go (is_name x.name n) (name_turned n x.name) e (found_number n c d m a)
  where
    go : (q : Bool) → is_name n x.name ≡ q → (if q then x ∷ c else from_name n c) ≡ slot m (hypothesis a) ∷ d
        → (from_name n c ≡ slot m (hypothesis a) ∷ d → hypothesis_named c n ≡ Some (count (entries d)))
        → (if is_name n x.name then number_of x.entry c else hypothesis_named c n) ≡ Some (count (entries d))
    go true q p f = let same = first_is x (slot m (hypothesis a)) c d p in
        ap (λ t. if t then number_of x.entry c else hypothesis_named c n) q ∙ ap (λ y. number_of (y.entry) c) same.0
        ∙ ap (λ l. Some (count (entries l))) same.1
    go false q p f = ap (λ t. if t then number_of x.entry c else hypothesis_named c n) q ∙ f p

-- ---- a hypothesis by its number

test_true : (i k : ℕ) → i ≡ k → (i == k) ≡ true
test_true i k e = grind (arith, nat_tests)

test_false : (i k : ℕ) → i < k → (i == k) ≡ false
test_false i k e = grind (arith, nat_tests)

pub hypothesis_is : (c : List Entry) (i : ℕ) (a : Formula) → IsHypothesis c i a → hypothesis_at c i ≡ Some a
hypothesis_is [] i a h = absurd h
hypothesis_is (variable s ∷ c) i a h = ap (option_map under) (hypothesis_is c i h.0 h.1) ∙ ap Some (sym h.2)
hypothesis_is (hypothesis b ∷ c) i a (inl h) =
    ap (λ t. if t then Some b else hypothesis_at c i) (test_true i (count c) h.0) ∙ ap Some (sym h.1)
hypothesis_is (hypothesis b ∷ c) i a (inr h) =
    ap (λ t. if t then Some b else hypothesis_at c i) (test_false i (count c) (hypothesis_below c i a h)) ∙ hypothesis_is c i a h
