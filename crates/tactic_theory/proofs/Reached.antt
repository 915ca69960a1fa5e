-- The list of strips has each strip of the formula: none is left out for want of strips.
use Rattle.env_theory.specs.Orders.{InOrder}
use Rattle.env_theory.specs.Heads.{head_form}
use Rattle.env_theory.specs.Normal.{normal}
use Rattle.env_theory.specs.Declarations.{Declaration}
use Rattle.std.proofs.Common.{
  ◌≡◌,
  ℕ,
  zero,
  suc,
  ◌+◌,
  ◌<◌,
  ◌≤◌,
  List,
  [],
  ◌∷◌,
  ◌++◌,
  map,
  Option,
  Some,
  None,
  refl,
  sym,
  ap,
  subst,
  ◌∙◌,
  arith,
}
use Rattle.fol_theory.specs.Syntax.{Formula}
use Rattle.fol_theory.specs.Substitution.{under}
use Rattle.fol_theory.specs.Measures.{nodes}
use Rattle.env_theory.proofs.Sameness.{normal_all, normal_implies}
use Rattle.env_theory.proofs.Again.{within_head}
use Rattle.tactic_theory.specs.Strips.{
  Strip,
  strip,
  strip_form,
  each_from,
  strips,
  all_strips,
  Stripped,
  unstripped,
  quantifier,
  premise,
  StripAt,
}

first_at : (k : ℕ) (E : List Declaration) (s : Strip) → StripAt (strips k E s) zero s
first_at zero E s = refl
first_at (suc k) E s = refl

module _ (E : List Declaration) (s t : Strip) (e : strip_form s (head_form E s.rest) ≡ Some t) where
  -- behind a strip of the list stands the next one
  further : (k j : ℕ) (a : Strip) → j < k → StripAt (strips k E a) j s → StripAt (strips k E a) (suc j) t
  further zero j a h p = absurd (omega (arith, h))
  further (suc k) zero a h p = subst (λ o. StripAt (each_from o (λ u. strips k E u)) zero t)
      (sym (ap (λ z. strip_form z (head_form E z.rest)) p ∙ e)) (first_at k E t)
  further (suc k) (suc j) a h p = go (strip_form a (head_form E a.rest)) (λ u q. further k j u (omega (arith, h)) q) p
    where
      go : (o : Option Strip) → ((u : Strip) → StripAt (strips k E u) j s → StripAt (strips k E u) (suc j) t) →
          StripAt (each_from o (λ u. strips k E u)) j s → StripAt (each_from o (λ u. strips k E u)) (suc j) t
      go None f q = q
      go (Some u) f q = f u q

-- where each strip stands: it takes a node off the normal form
reached : (E : List Declaration) → InOrder E → (a : Formula) (s : Strip) → Stripped E a s → (j : ℕ) ×
    StripAt (all_strips E a) j s × (j + nodes (normal E s.rest) ≤ nodes (normal E a))
reached E o a s unstripped = (zero, first_at (nodes (normal E a)) E (strip [] [] a), omega arith)
reached E o a t (quantifier s r x b k q) =
    let h = reached E o a s k in
    let n : nodes (normal E s.rest) ≡ nodes (normal E b) + 1 = ap nodes (sym (within_head E o E (λ d m. m) s.rest) ∙
    ap (normal E) q ∙ normal_all E r x b) in (
      suc h.0,
      further E s (strip (r ∷ s.sorts) (map under s.premises) b) (ap (strip_form s) q) (nodes (normal E a)) h.0 (strip [] [] a)
          (omega (arith, n, h.2)) h.1,
      omega (arith, n, h.2),
    )
reached E o a t (premise s p b k q) =
    let h = reached E o a s k in
    let n : nodes (normal E s.rest) ≡ nodes (normal E p) + nodes (normal E b) + 1 =
    ap nodes (sym (within_head E o E (λ d m. m) s.rest) ∙ ap (normal E) q ∙ normal_implies E p b) in (
      suc h.0,
      further E s (strip s.sorts (s.premises ++ p ∷ []) b) (ap (strip_form s) q) (nodes (normal E a)) h.0 (strip [] [] a)
          (omega (arith, n, h.2)) h.1,
      omega (arith, n, h.2),
    )

pub all_reached : (E : List Declaration) → InOrder E → (a : Formula) (s : Strip) → Stripped E a s → (j : ℕ) × StripAt (all_strips E a) j s
all_reached E o a s k = let h = reached E o a s k in (h.0, h.1)
