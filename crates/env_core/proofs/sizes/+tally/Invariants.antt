use Rattle.std.proofs.Common.{◌≡◌, ◌+◌, ◌≤◌, ◌^◌, min, max, drop, length}
use Rattle.term_core.specs.Term.{list_meaning}
use Rattle.env_theory.specs.Count.{by_nodes, by_height, count_terms, spread}
use Rattle.env_core.specs.Weights.{weights_of}
use Rattle.env_core.specs.Rows.{nodes_rows, height_rows, nodes_at, height_at}
use Rattle.env_core.proofs.sizes.+tally.Given as goal

abbrev pub invariant-terms_tally-loop-t : goal.invariant-terms_tally-loop-t
invariant-terms_tally-loop-t l =
    (min (l.all.nodes + count_terms by_nodes (nodes_rows l.env) 1 (weights_of l.weights) (list_meaning (drop l.t-index l.ts))) (2 ^ 32)
    ≡ min (count_terms by_nodes (nodes_rows l.env) 1 (weights_of l.weights) (list_meaning l.ts)) (2 ^ 32)) ×
    (min (max l.all.height (count_terms by_height (height_rows l.env) 1 (weights_of l.weights) (list_meaning (drop l.t-index l.ts))))
    (2 ^ 32)
    ≡ min (count_terms by_height (height_rows l.env) 1 (weights_of l.weights) (list_meaning l.ts)) (2 ^ 32)) ×
    (l.all.nodes ≤ 2 ^ 32) × (l.all.height ≤ 2 ^ 32)

abbrev pub invariant-spread_tally-loop-t : goal.invariant-spread_tally-loop-t
invariant-spread_tally-loop-t l =
    (min (l.all.nodes + spread by_nodes (nodes_rows l.env) 1 (weights_of l.weights) (nodes_at l.uses) (list_meaning
    (drop l.t-index l.ts))) (2 ^ 32)
    ≡ min (spread by_nodes (nodes_rows l.env) 1 (weights_of l.weights) (nodes_at l.uses) (list_meaning l.ts)) (2 ^ 32)) ×
    (min (max l.all.height (spread by_height (height_rows l.env) 1 (weights_of l.weights) (height_at l.uses) (list_meaning
    (drop l.t-index l.ts)))) (2 ^ 32)
    ≡ min (spread by_height (height_rows l.env) 1 (weights_of l.weights) (height_at l.uses) (list_meaning l.ts)) (2 ^ 32)) ×
    (l.all.nodes ≤ 2 ^ 32) × (l.all.height ≤ 2 ^ 32) × (l.left + l.t-index ≡ length l.ts)
