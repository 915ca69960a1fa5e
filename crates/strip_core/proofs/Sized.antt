-- An instance has at least the nodes and the height of its pattern.
use Rattle.std.proofs.Common.{◌≡◌, ◌<◌, ◌≤◌, ◌⊎◌, ℕ, ◌^◌, min, List, Option, Some, None, refl, sym, ap, ◌∙◌, arith}
use Rattle.fol_theory.specs.Syntax.{Term, var, app, Terms, nil, cons, Formula, truth, falsity, pred, equal, both, either, implies, all, ex}
use Rattle.fol_theory.specs.Substitution.{replace_term, replace_terms, replace, lift}
use Rattle.fol_theory.specs.Measures.{term_nodes, terms_nodes, nodes, term_height, terms_height, height}
use Rattle.fol_theory.proofs.Names.{nodes_unnamed, height_unnamed}
use Rattle.fol_theory.proofs.Sizes.{term_nodes_positive, term_height_positive}
use Rattle.match_theory.specs.Instances.{fill}
use Rattle.match_theory.specs.Matching.{matches}
use Rattle.match_theory.proofs.Matched.{matches_sound}

-- no fewer nodes, and no less height
abbrev NoLess : ℕ → ℕ → ℕ → ℕ → Type 0
NoLess m h n k = (m ≤ n) × (h ≤ k)

mutual
  term_grows : (σ : ℕ → Term) (t : Term) → NoLess (term_nodes t) (term_height t) (term_nodes (replace_term σ t)) (term_height (replace_term σ t))
  term_grows σ (var i) = (term_nodes_positive (σ i), term_height_positive (σ i))
  term_grows σ (app f ts) = let r = terms_grow σ ts in (omega (arith, r.0), omega (arith, r.1))

  terms_grow : (σ : ℕ → Term) (ts : Terms)
      → NoLess (terms_nodes ts) (terms_height ts) (terms_nodes (replace_terms σ ts)) (terms_height (replace_terms σ ts))
  terms_grow σ nil = (omega arith, omega arith)
  terms_grow σ (cons t ts) =
      let r = term_grows σ t in let s = terms_grow σ ts in (omega (arith, r.0, s.0), omega (arith, r.1, s.1))

grows : (σ : ℕ → Term) (a : Formula) → NoLess (nodes a) (height a) (nodes (replace σ a)) (height (replace σ a))
grows σ truth = (omega arith, omega arith)
grows σ falsity = (omega arith, omega arith)
grows σ (pred p ts) = let r = terms_grow σ ts in (omega (arith, r.0), omega (arith, r.1))
grows σ (equal s t u) = let r = term_grows σ t in let k = term_grows σ u in (omega (arith, r.0, k.0), omega (arith, r.1, k.1))
grows σ (both a b) = let r = grows σ a in let k = grows σ b in (omega (arith, r.0, k.0), omega (arith, r.1, k.1))
grows σ (either a b) = let r = grows σ a in let k = grows σ b in (omega (arith, r.0, k.0), omega (arith, r.1, k.1))
grows σ (implies a b) = let r = grows σ a in let k = grows σ b in (omega (arith, r.0, k.0), omega (arith, r.1, k.1))
grows σ (all s x a) = let r = grows (lift σ) a in (omega (arith, r.0), omega (arith, r.1))
grows σ (ex s x a) = let r = grows (lift σ) a in (omega (arith, r.0), omega (arith, r.1))

-- what has more nodes than a formula or is higher, as far as both are counted, has no instance that it is
pub none_smaller : (n : ℕ) (a c : Formula) (m h k l : ℕ) → m ≡ min (nodes c) (2 ^ 32) → h ≡ min (height c) (2 ^ 32) →
    k ≡ min (nodes a) (2 ^ 32) → l ≡ min (height a) (2 ^ 32) → (m < k) ⊎ (h < l) → matches n a c ≡ None
none_smaller n a c m h k l em eh ek el larger = go (matches n a c) refl
  where
    go : (o : Option (List Term)) → matches n a c ≡ o → o ≡ None
    go None e = refl
    go (Some ts) e =
        let is = (matches_sound n a c ts e).1 in
        let g = grows (fill ts) a in
        let x = sym (nodes_unnamed (replace (fill ts) a)) ∙ ap nodes is ∙ nodes_unnamed c in
        let y = sym (height_unnamed (replace (fill ts) a)) ∙ ap height is ∙ height_unnamed c in
        absurd (omega (arith, larger, g.0, g.1, x, y, em, eh, ek, el))
