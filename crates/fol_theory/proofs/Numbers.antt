-- The numbers of hypotheses, and a hypothesis that is told by its place.
use Rattle.std.proofs.Common.{◌≡◌, ℕ, ◌<◌, ◌≤◌, List, [], ◌∷◌, ◌++◌, length, refl, sym, ap, ◌∙◌, ◌⊎◌, inl, inr, true, false, if◌then◌else◌}
use Rattle.std.proofs.Common.{◌==◌, arith}
use Rattle.std.proofs.lemmas.Bool.Decides.{nat_tests}
use Rattle.fol_theory.specs.Syntax.{Formula}
use Rattle.fol_theory.specs.Substitution.{under, shift}
use Rattle.fol_theory.specs.Contexts.{Entry, variable, hypothesis, variables, count, IsHypothesis, without}
use Rattle.fol_theory.proofs.AtIndex.{side, shift_none, under_shift}

-- ---- each number below the count is of one hypothesis

pub hypothesis_below : (c : List Entry) (i : ℕ) (a : Formula) → IsHypothesis c i a → i < count c
hypothesis_below [] i a h = absurd h
hypothesis_below (variable s ∷ c) i a h = hypothesis_below c i h.0 h.1
hypothesis_below (hypothesis b ∷ c) i a (inl h) = omega (arith, h.0)
hypothesis_below (hypothesis b ∷ c) i a (inr h) = omega (arith, hypothesis_below c i a h)

below_itself : {A : Type 0} (i n : ℕ) → i ≡ n → i < n → A
below_itself i n e h = absurd (omega (arith, e, h))

pub hypothesis_once : (c : List Entry) (i : ℕ) (a b : Formula) → IsHypothesis c i a → IsHypothesis c i b → a ≡ b
hypothesis_once [] i a b h k = absurd h
hypothesis_once (variable s ∷ c) i a b h k = h.2 ∙ ap under (hypothesis_once c i h.0 k.0 h.1 k.1) ∙ sym k.2
hypothesis_once (hypothesis d ∷ c) i a b (inl h) (inl k) = h.1 ∙ sym k.1
hypothesis_once (hypothesis d ∷ c) i a b (inl h) (inr k) = below_itself i (count c) h.0 (hypothesis_below c i b k)
hypothesis_once (hypothesis d ∷ c) i a b (inr h) (inl k) = below_itself i (count c) k.0 (hypothesis_below c i a h)
hypothesis_once (hypothesis d ∷ c) i a b (inr h) (inr k) = hypothesis_once c i a b h k

pub hypothesis_there : (c : List Entry) (i : ℕ) → i < count c → (a : Formula) × IsHypothesis c i a
hypothesis_there [] i h = absurd (omega (arith, h))
hypothesis_there (variable s ∷ c) i h = let r = hypothesis_there c i h in (under r.0, (r.0, r.1, refl))
hypothesis_there (hypothesis b ∷ c) i h = go (side i (count c)) (hypothesis_there c i)
  where
    go : (i < count c) ⊎ (count c ≤ i) → (i < count c → (a : Formula) × IsHypothesis c i a)
        → (a : Formula) × IsHypothesis (hypothesis b ∷ c) i a
    go (inl k) more = let r = more k in (r.0, inr r.1)
    go (inr k) more = (b, inl (omega (arith, h, k), refl))

-- ---- a hypothesis between newer and older entries

pub hypothesis_placed : (newer older : List Entry) (a : Formula)
    → IsHypothesis (newer ++ hypothesis a ∷ older) (count older) (shift 0 (length (variables newer)) a)
hypothesis_placed [] older a = inl (refl, shift_none 0 a)
hypothesis_placed (variable s ∷ newer) older a = (
  shift 0 (length (variables newer)) a,
  hypothesis_placed newer older a,
  ap (λ n. shift 0 n a) (omega arith) ∙ sym (under_shift (length (variables newer)) a),
)
hypothesis_placed (hypothesis b ∷ newer) older a = inr (hypothesis_placed newer older a)

test_same : (n : ℕ) → (n == n) ≡ true
test_same n = grind (arith, nat_tests)

test_below : (i n : ℕ) → i < n → (i == n) ≡ false
test_below i n h = grind (arith, nat_tests)

count_placed : (newer older : List Entry) (a : Formula) → count older < count (newer ++ hypothesis a ∷ older)
count_placed [] older a = omega arith
count_placed (variable s ∷ newer) older a = count_placed newer older a
count_placed (hypothesis b ∷ newer) older a = omega (arith, count_placed newer older a)

pub without_placed : (newer older : List Entry) (a : Formula) → without (newer ++ hypothesis a ∷ older) (count older) ≡ newer ++ older
without_placed [] older a = ap (λ t. if t then older else hypothesis a ∷ without older (count older)) (test_same (count older))
without_placed (variable s ∷ newer) older a = ap (λ c. variable s ∷ c) (without_placed newer older a)
without_placed (hypothesis b ∷ newer) older a =
    ap (λ t. if t then newer ++ hypothesis a ∷ older else hypothesis b ∷ without (newer ++ hypothesis a ∷ older) (count older))
    (test_below (count older) (count (newer ++ hypothesis a ∷ older)) (count_placed newer older a))
    ∙ ap (λ c. hypothesis b ∷ c) (without_placed newer older a)
