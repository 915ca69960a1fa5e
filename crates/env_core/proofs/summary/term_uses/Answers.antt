use Rattle.std.proofs.Common.{◌≡◌, ℕ, ◌+◌, ◌<◌, ◌++◌, length, take, drop, sym, ap, subst, ◌∙◌, arith}
use Rattle.term_core.specs.Term.{meaning}
use Rattle.env_theory.specs.Count.{by_nodes, by_height, count_term, only, upto}
use Rattle.env_core.specs.Rows.{nodes_at, height_at, nodes_rows, height_rows}
use Rattle.env_core.proofs.Limits.{nodes_once, height_once, written}
use Rattle.env_core.proofs.summary.term_uses.Goals as goal

plain : (k : ℕ) → k + 0 ≡ k
plain k = omega arith

pub returns-clause-length : goal.returns-clause-length
returns-clause-length c =
    let many : length c.as_mut_slice.result.now ≡ c.args.params = ap length c.as_mut_slice.ensures.value ∙ c.in_ok-uses.ensures.length in
    let same : length c.add_uses.new.uses ≡ length c.in_ok-uses.uses.items = c.add_uses.ensures.length
    ∙ ap length c.as_mut_slice.ensures.value in
    let w : take c.in_ok-uses.uses.len (c.add_uses.new.uses ++ drop (length c.add_uses.new.uses) c.in_ok-uses.uses.items)
    ≡ c.add_uses.new.uses =
    written c.add_uses.new.uses c.in_ok-uses.uses.items c.in_ok-uses.uses.len same (sym c.as_mut_slice.ensures.len
    ∙ ap length c.as_mut_slice.ensures.value) in
    ap length w ∙ c.add_uses.ensures.length ∙ many

pub returns-clause-nodes : goal.returns-clause-nodes
returns-clause-nodes c =
    let many : length c.as_mut_slice.result.now ≡ c.args.params = ap length c.as_mut_slice.ensures.value ∙ c.in_ok-uses.ensures.length in
    let same : length c.add_uses.new.uses ≡ length c.in_ok-uses.uses.items = c.add_uses.ensures.length
    ∙ ap length c.as_mut_slice.ensures.value in
    let w : take c.in_ok-uses.uses.len (c.add_uses.new.uses ++ drop (length c.add_uses.new.uses) c.in_ok-uses.uses.items)
    ≡ c.add_uses.new.uses =
    written c.add_uses.new.uses c.in_ok-uses.uses.items c.in_ok-uses.uses.len same (sym c.as_mut_slice.ensures.len
    ∙ ap length c.as_mut_slice.ensures.value) in
    λ k h. ap (λ u. upto (nodes_at u k)) w ∙ c.add_uses.ensures.nodes k (subst (λ n. k < n) (sym many) h) ∙
    nodes_once _ _ (count_term by_nodes (nodes_rows c.args.env.now) 0 (only k) (meaning c.args.body.now))
    (ap (λ u. nodes_at u k) c.as_mut_slice.ensures.value ∙ c.in_ok-uses.ensures.nodes k)
    (ap (λ j. count_term by_nodes (nodes_rows c.args.env.now) 0 (only j) (meaning c.args.body.now)) (plain k))

pub returns-clause-height : goal.returns-clause-height
returns-clause-height c =
    let many : length c.as_mut_slice.result.now ≡ c.args.params = ap length c.as_mut_slice.ensures.value ∙ c.in_ok-uses.ensures.length in
    let same : length c.add_uses.new.uses ≡ length c.in_ok-uses.uses.items = c.add_uses.ensures.length
    ∙ ap length c.as_mut_slice.ensures.value in
    let w : take c.in_ok-uses.uses.len (c.add_uses.new.uses ++ drop (length c.add_uses.new.uses) c.in_ok-uses.uses.items)
    ≡ c.add_uses.new.uses =
    written c.add_uses.new.uses c.in_ok-uses.uses.items c.in_ok-uses.uses.len same (sym c.as_mut_slice.ensures.len
    ∙ ap length c.as_mut_slice.ensures.value) in
    λ k h. ap (λ u. upto (height_at u k)) w ∙ c.add_uses.ensures.height k (subst (λ n. k < n) (sym many) h) ∙
    height_once _ _ (count_term by_height (height_rows c.args.env.now) 0 (only k) (meaning c.args.body.now))
    (ap (λ u. height_at u k) c.as_mut_slice.ensures.value ∙ c.in_ok-uses.ensures.height k)
    (ap (λ j. count_term by_height (height_rows c.args.env.now) 0 (only j) (meaning c.args.body.now)) (plain k))
