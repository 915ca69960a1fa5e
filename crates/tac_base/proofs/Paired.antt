-- Pairs one after another.
use Rattle.std.proofs.Common.{◌≡◌, ◌↔◌, ℕ, suc, ◌+◌, ◌<◌, List, ◌∷◌, length, drop, get_or, sym, ap, subst, ◌∙◌, arith}
use Rattle.std.proofs.Math.Seq.{drop-cons}
use Rattle.env_theory.specs.Declarations.{Declaration}
use Rattle.env_theory.specs.Normal.{Same}
use Rattle.env_theory.specs.Typing.{WellFormed}
use Rattle.evidence_core.specs.declared.shown.Pair.{Pair}
use Rattle.evidence_core.specs.Meaning.{pair, pairs}
use Rattle.evidence_core.specs.Pairs.{AreFormed, AreSame}

module _ (E : List Declaration) (xs : List Pair) (i : ℕ) (x : Pair) (h : i < length xs) (e : x ≡ get_or xs i x) where
  front : pairs (drop i xs) ≡ pair x ∷ pairs (drop (i + 1) xs)
  front =
      let more : suc i ≡ i + 1 = omega arith in
      ap pairs (drop-cons xs i x h) ∙ ap (λ y. pair y ∷ pairs (drop (suc i) xs)) (sym e) ∙ ap (λ j. pair x ∷ pairs (drop j xs)) more

  pub pair_formed : (V : List (List ℕ)) → AreFormed E V (pairs (drop i xs))
      → WellFormed E V (pair x).0 × WellFormed E V (pair x).1 × AreFormed E V (pairs (drop (i + 1) xs))
  pair_formed V k = subst (AreFormed E V) front k

  pub pair_differs : AreSame E (pairs xs) ↔ AreSame E (pairs (drop i xs)) → (Same E (pair x).0 (pair x).1 → ⊥) → AreSame E (pairs xs) → ⊥
  pair_differs k n s = n (subst (AreSame E) front (k.0 s)).0

  pub pair_same : AreSame E (pairs xs) ↔ AreSame E (pairs (drop i xs)) → Same E (pair x).0 (pair x).1
      → AreSame E (pairs xs) ↔ AreSame E (pairs (drop (i + 1) xs))
  pair_same k s = ((λ t. (subst (AreSame E) front (k.0 t)).1), (λ t. k.1 (subst (AreSame E) (sym front) (s, t))))
