-- When two bullets have the same bytes.
use Rattle.std.proofs.Common.{◌≡◌, ℕ, ◌<◌, Bool, true, false, IsTrue, length, replicate, get_or, refl, sym, ap, ◌∙◌}
use Rattle.std.proofs.lemmas.List.{length-replicate, get_or-replicate}
use Rattle.fol_theory.specs.Syntax.{is_name}
use Rattle.term_core.proofs.Keys.{names_equal}

fails : (b : Bool) → (IsTrue b → ⊥) → b ≡ false
fails true h = absurd (h refl)
fails false h = refl

-- as many of the same byte
pub bytes_same : (n m a b : ℕ) → n ≡ m → a ≡ b → is_name (replicate n a) (replicate m b) ≡ true
bytes_same n m a b h k = (names_equal (replicate n a) (replicate m b)).1 (λ i. replicate (h i) (k i))

-- none at all
pub bytes_none : (n m a b : ℕ) → n ≡ m → n ≡ 0 → is_name (replicate n a) (replicate m b) ≡ true
bytes_none n m a b h z =
    (names_equal (replicate n a) (replicate m b)).1 (ap (λ k. replicate k a) z ∙ sym (ap (λ k. replicate k b) (sym h ∙ z)))

-- another byte
pub bytes_other : (n m a b : ℕ) → n ≡ m → 0 < n → (a ≡ b → ⊥) → is_name (replicate n a) (replicate m b) ≡ false
bytes_other n m a b h p k = fails (is_name (replicate n a) (replicate m b)) (λ t. k (same ((names_equal (replicate n a) (replicate m b)).0 t)))
  where
    same : replicate n a ≡ replicate m b → a ≡ b
    same e =
        let f = e ∙ ap (λ j. replicate j b) (sym h) in
        sym (get_or-replicate n 0 a 0 p) ∙ ap (λ xs. get_or xs 0 0) f ∙ get_or-replicate n 0 b 0 p

-- more of them, or fewer
pub bytes_longer : (n m a b : ℕ) → (n ≡ m → ⊥) → is_name (replicate n a) (replicate m b) ≡ false
bytes_longer n m a b k = fails (is_name (replicate n a) (replicate m b)) (λ t. k (same ((names_equal (replicate n a) (replicate m b)).0 t)))
  where
    same : replicate n a ≡ replicate m b → n ≡ m
    same e = sym (length-replicate n a) ∙ ap length e ∙ length-replicate m b

pub ruleset same_bytes = (bytes_same, bytes_none, bytes_other, bytes_longer)
