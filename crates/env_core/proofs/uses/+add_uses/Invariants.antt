use Rattle.std.proofs.Common.{◌≡◌, ℕ, ◌+◌, ◌*◌, ◌<◌, ◌^◌, min, max, drop, length}
use Rattle.term_core.specs.Term.{list_meaning}
use Rattle.env_theory.specs.Count.{by_nodes, by_height, joined, count_terms, spread, only}
use Rattle.env_core.specs.Rows.{nodes_rows, height_rows, nodes_at, height_at}
use Rattle.env_core.proofs.uses.+add_uses.Given as goal

abbrev pub invariant-add_all-loop-t : goal.invariant-add_all-loop-t
invariant-add_all-loop-t l =
    (length l.uses ≡ length l.initial.uses) ×
    ((k : ℕ) → k < length l.initial.uses
    → min (nodes_at l.uses k + l.times.nodes * count_terms by_nodes (nodes_rows l.env) 0 (only (k + l.binders)) (list_meaning
    (drop l.t-index l.ts))) (2 ^ 32)
    ≡ min (nodes_at l.initial.uses k + l.times.nodes * count_terms by_nodes (nodes_rows l.env) 0 (only (k + l.binders))
    (list_meaning l.ts)) (2 ^ 32)) ×
    ((k : ℕ) → k < length l.initial.uses
    → min (max (height_at l.uses k) (joined l.times.height (count_terms by_height (height_rows l.env) 0 (only (k + l.binders))
    (list_meaning (drop l.t-index l.ts))))) (2 ^ 32)
    ≡ min (max (height_at l.initial.uses k) (joined l.times.height (count_terms by_height (height_rows l.env) 0 (only (k + l.binders))
    (list_meaning l.ts)))) (2 ^ 32))

abbrev pub invariant-add_spread-loop-t : goal.invariant-add_spread-loop-t
invariant-add_spread-loop-t l =
    (length l.uses ≡ length l.initial.uses) × (l.left + l.t-index ≡ length l.ts) ×
    ((k : ℕ) → k < length l.initial.uses
    → min (nodes_at l.uses k + l.times.nodes * spread by_nodes (nodes_rows l.env) 0 (only (k + l.binders)) (nodes_at l.body)
    (list_meaning (drop l.t-index l.ts))) (2 ^ 32)
    ≡ min (nodes_at l.initial.uses k + l.times.nodes * spread by_nodes (nodes_rows l.env) 0 (only (k + l.binders)) (nodes_at l.body)
    (list_meaning l.ts)) (2 ^ 32)) ×
    ((k : ℕ) → k < length l.initial.uses
    → min (max (height_at l.uses k) (joined l.times.height (spread by_height (height_rows l.env) 0 (only (k + l.binders))
    (height_at l.body) (list_meaning (drop l.t-index l.ts))))) (2 ^ 32)
    ≡ min (max (height_at l.initial.uses k) (joined l.times.height (spread by_height (height_rows l.env) 0 (only (k + l.binders))
    (height_at l.body) (list_meaning l.ts)))) (2 ^ 32))
