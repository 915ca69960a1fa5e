-- Contexts: a variable or a hypothesis more, and a hypothesis less.
use Rattle.std.proofs.Common.{◌≡◌, ℕ, suc, List, [], ◌∷◌, map, length, refl, sym, ap, subst, ◌∙◌, inl, inr, Bool, true, false}
use Rattle.std.proofs.Common.{if◌then◌else◌, ◌==◌, arith}
use Rattle.fol_theory.specs.Syntax.{Formula}
use Rattle.fol_theory.specs.Substitution.{under}
use Rattle.fol_theory.specs.Contexts.{Entry, variable, hypothesis, variables, hypotheses, count, IsHypothesis, without, omit, IsFromLast}

length_map : {A B : Type 0} (f : A → B) (xs : List A) → length (map f xs) ≡ length xs
length_map f [] = refl
length_map f (x ∷ xs) = ap suc (length_map f xs)

-- there are as many hypotheses as are counted
pub count_hypotheses : (c : List Entry) → length (hypotheses c) ≡ count c
count_hypotheses [] = refl
count_hypotheses (variable s ∷ c) = length_map under (hypotheses c) ∙ count_hypotheses c
count_hypotheses (hypothesis a ∷ c) = omega (arith, count_hypotheses c)

map_if : {A B : Type 0} (f : A → B) (b : Bool) (xs ys : List A) → map f (if b then xs else ys) ≡ (if b then map f xs else map f ys)
map_if f true xs ys = refl
map_if f false xs ys = refl

omit_map : {A B : Type 0} (f : A → B) (i : ℕ) (xs : List A) → omit i (map f xs) ≡ map f (omit i xs)
omit_map f i [] = refl
omit_map f i (x ∷ xs) =
    ap (λ n. if i == n then map f xs else f x ∷ omit i (map f xs)) (length_map f xs)
    ∙ ap (λ z. if i == length xs then map f xs else f x ∷ z) (omit_map f i xs) ∙ sym (map_if f (i == length xs) xs (x ∷ omit i xs))

-- a hypothesis less takes no variable away
pub without_variables : (c : List Entry) (i : ℕ) → variables (without c i) ≡ variables c
without_variables [] i = refl
without_variables (variable s ∷ c) i = ap (λ V. s ∷ V) (without_variables c i)
without_variables (hypothesis a ∷ c) i = go (i == count c) (without_variables c i)
  where
    go : (b : Bool) → variables (without c i) ≡ variables c → variables (if b then c else hypothesis a ∷ without c i) ≡ variables c
    go true k = refl
    go false k = k

-- and of the hypotheses that one
pub without_hypotheses : (c : List Entry) (i : ℕ) → hypotheses (without c i) ≡ omit i (hypotheses c)
without_hypotheses [] i = refl
without_hypotheses (variable s ∷ c) i = ap (map under) (without_hypotheses c i) ∙ sym (omit_map under i (hypotheses c))
without_hypotheses (hypothesis a ∷ c) i =
    go (i == count c) (without_hypotheses c i)
    ∙ ap (λ n. if i == n then hypotheses c else a ∷ omit i (hypotheses c)) (sym (count_hypotheses c))
  where
    go : (b : Bool) → hypotheses (without c i) ≡ omit i (hypotheses c)
        → hypotheses (if b then c else hypothesis a ∷ without c i) ≡ (if b then hypotheses c else a ∷ omit i (hypotheses c))
    go true k = refl
    go false k = ap (λ z. a ∷ z) k

from_last_map : {A B : Type 0} (f : A → B) (xs : List A) (i : ℕ) (a : A) → IsFromLast xs i a → IsFromLast (map f xs) i (f a)
from_last_map f [] i a h = h
from_last_map f (x ∷ xs) i a (inl h) = inl (h.0 ∙ sym (length_map f xs), ap f h.1)
from_last_map f (x ∷ xs) i a (inr h) = inr (from_last_map f xs i a h)

from_last_of_map : {A B : Type 0} (f : A → B) (xs : List A) (i : ℕ) (b : B) → IsFromLast (map f xs) i b
    → (a : A) × IsFromLast xs i a × (b ≡ f a)
from_last_of_map f [] i b h = absurd h
from_last_of_map f (x ∷ xs) i b (inl h) = (x, inl (h.0 ∙ length_map f xs, refl), h.1)
from_last_of_map f (x ∷ xs) i b (inr h) = let r = from_last_of_map f xs i b h in (r.0, inr r.1, r.2)

-- the hypothesis i is the one that has i behind it in the list of all
pub hypothesis_is : (c : List Entry) (i : ℕ) (a : Formula) → IsHypothesis c i a → IsFromLast (hypotheses c) i a
hypothesis_is [] i a h = h
hypothesis_is (variable s ∷ c) i a h =
    subst (λ z. IsFromLast (map under (hypotheses c)) i z) (sym h.2) (from_last_map under (hypotheses c) i h.0 (hypothesis_is c i h.0 h.1))
hypothesis_is (hypothesis b ∷ c) i a (inl h) = inl (h.0 ∙ sym (count_hypotheses c), h.1)
hypothesis_is (hypothesis b ∷ c) i a (inr h) = inr (hypothesis_is c i a h)

pub is_hypothesis : (c : List Entry) (i : ℕ) (a : Formula) → IsFromLast (hypotheses c) i a → IsHypothesis c i a
is_hypothesis [] i a h = h
is_hypothesis (variable s ∷ c) i a h = let r = from_last_of_map under (hypotheses c) i a h in (r.0, is_hypothesis c i r.0 r.1, r.2)
is_hypothesis (hypothesis b ∷ c) i a (inl h) = inl (h.0 ∙ count_hypotheses c, h.1)
is_hypothesis (hypothesis b ∷ c) i a (inr h) = inr (is_hypothesis c i a h)
