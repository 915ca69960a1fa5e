-- What is added may be known up to 2 ^ 32 alone.
use Rattle.std.proofs.Common.{◌≡◌, ℕ, ◌+◌, ◌*◌, ◌^◌, min, max, refl, sym, ap, ◌∙◌}
use Rattle.env_theory.specs.Count.{Scale, by_nodes, by_height, joined, upto}
use Rattle.env_theory.proofs.Caps.{Cuts, nodes_cuts, height_cuts}

module _ (S : Scale) (C : Cuts S) where
  alike : (n m x y : ℕ) → upto x ≡ upto y → upto (S.plus n (S.times m x)) ≡ upto (S.plus n (S.times m y))
  alike n m x y e =
      C.plus_cut n (S.times m x)
      ∙ ap (λ z. upto (S.plus (upto n) z)) (C.times_cut m x ∙ ap (λ z. upto (S.times (upto m) z)) e ∙ sym (C.times_cut m y))
      ∙ sym (C.plus_cut n (S.times m y))

pub nodes_alike : (n m x y : ℕ) → upto x ≡ upto y → min (n + m * x) (2 ^ 32) ≡ min (n + m * y) (2 ^ 32)
nodes_alike = alike by_nodes nodes_cuts

pub height_alike : (n m x y : ℕ) → upto x ≡ upto y → min (max n (joined m x)) (2 ^ 32) ≡ min (max n (joined m y)) (2 ^ 32)
height_alike = alike by_height height_cuts
