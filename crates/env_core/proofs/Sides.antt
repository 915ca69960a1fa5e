-- What is added for each variant of a formula.
use Rattle.std.proofs.Common.{◌≡◌, ℕ, ◌+◌, ◌*◌, ◌^◌, min, max, sym, ap, ◌∙◌}
use Rattle.env_theory.specs.Count.{by_nodes, by_height, joined, node}
use Rattle.env_theory.proofs.Scales.{nodes_laws, height_laws}
use Rattle.env_theory.proofs.Caps.{nodes_cuts, height_cuts}
use Rattle.env_theory.proofs.Added.{pair_added, below_added}

pub nodes_sides : (n m m' n1 n2 x y z : ℕ) → m' ≡ min (m * 1) (2 ^ 32) → min n1 (2 ^ 32) ≡ min (n + (m' * x)) (2 ^ 32)
    → min n2 (2 ^ 32) ≡ min (n1 + (m' * y)) (2 ^ 32) → z ≡ node by_nodes 0 (x + y)
    → min n2 (2 ^ 32) ≡ min (n + (m * z)) (2 ^ 32)
nodes_sides n m m' n1 n2 x y z e f g h =
    below_added by_nodes nodes_laws nodes_cuts n m (x + y) m' n2 e (pair_added by_nodes nodes_laws nodes_cuts n m' x y n1 n2 f g)
    ∙ ap (λ q. min (n + (m * q)) (2 ^ 32)) (sym h)

pub nodes_below : (n m m' n' x z : ℕ) → m' ≡ min (m * 1) (2 ^ 32) → min n' (2 ^ 32) ≡ min (n + (m' * x)) (2 ^ 32) → z ≡ node by_nodes 0 x
    → min n' (2 ^ 32) ≡ min (n + (m * z)) (2 ^ 32)
nodes_below n m m' n' x z e f h =
    below_added by_nodes nodes_laws nodes_cuts n m x m' n' e f ∙ ap (λ q. min (n + (m * q)) (2 ^ 32)) (sym h)

pub height_sides : (n m m' n1 n2 x y z : ℕ) → m' ≡ min (joined m 2) (2 ^ 32) → min n1 (2 ^ 32) ≡ min (max n (joined m' x)) (2 ^ 32)
    → min n2 (2 ^ 32) ≡ min (max n1 (joined m' y)) (2 ^ 32) → z ≡ node by_height 0 (max x y)
    → min n2 (2 ^ 32) ≡ min (max n (joined m z)) (2 ^ 32)
height_sides n m m' n1 n2 x y z e f g h =
    below_added by_height height_laws height_cuts n m (max x y) m' n2 e (pair_added by_height height_laws height_cuts n m' x y n1 n2 f g)
    ∙ ap (λ q. min (max n (joined m q)) (2 ^ 32)) (sym h)

pub height_below : (n m m' n' x z : ℕ) → m' ≡ min (joined m 2) (2 ^ 32) → min n' (2 ^ 32) ≡ min (max n (joined m' x)) (2 ^ 32)
    → z ≡ node by_height 0 x → min n' (2 ^ 32) ≡ min (max n (joined m z)) (2 ^ 32)
height_below n m m' n' x z e f h =
    below_added by_height height_laws height_cuts n m x m' n' e f ∙ ap (λ q. min (max n (joined m q)) (2 ^ 32)) (sym h)
