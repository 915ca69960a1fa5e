use Rattle.std.proofs.Common.{◌≡◌, ℕ, ◌≤◌, ap, ◌∙◌, arith}
use Rattle.term_core.specs.Term.{meaning}
use Rattle.env_theory.specs.Count.{by_nodes, by_height, count_term, only, upto}
use Rattle.env_theory.proofs.Scales.{nodes_laws, height_laws}
use Rattle.env_theory.proofs.Caps.{upto_twice}
use Rattle.env_theory.proofs.Linear.{uses_beyond}
use Rattle.env_theory.proofs.Sorts.{sort_reach}
use Rattle.env_core.specs.Meaning.{declarations}
use Rattle.env_core.specs.Rows.{nodes_at, height_at, nodes_rows, height_rows}
use Rattle.env_core.proofs.Weighing.{below_none}
use Rattle.env_core.proofs.Summing.{all_nodes, all_height, projects_known}
use Rattle.env_core.proofs.summary.term_summary.Goals as goal

pub returns : goal.returns
returns c =
    let E = declarations c.args.env.now in
    let R = nodes_rows c.args.env.now in
    let H = height_rows c.args.env.now in
    let b = meaning c.args.body.now in
    let q = c.requires.sort in
    let r = sort_reach E q.0 b q.1 q.2 in
    let n = q.3 in
    let own = ap upto c.term_tally-own.ensures.nodes ∙ upto_twice _ ∙ ap (λ v. upto (count_term by_nodes R 1 v b)) below_none in
    let tall = ap upto c.term_tally-own.ensures.height ∙ upto_twice _ ∙ ap (λ v. upto (count_term by_height H 1 v b)) below_none in
    let uses = all_nodes c.in_ok-uses.uses.items c.args.params c.in_ok-uses.ensures.length (λ k. count_term by_nodes R 0 (only k) b)
    (λ k l. uses_beyond by_nodes nodes_laws R b k (omega (arith, r, n, l))) c.in_ok-uses.ensures.nodes in
    let deep = all_height c.in_ok-uses.uses.items c.args.params c.in_ok-uses.ensures.length (λ k. count_term by_height H 0 (only k) b)
    (λ k l. uses_beyond by_height height_laws H b k (omega (arith, r, n, l))) c.in_ok-uses.ensures.height in (
      (own, uses),
      (tall, deep),
      projects_known E c.requires.environment q.0 b q.1 q.2 c.term_tally-own.result.nodes c.as_slice.result.now own
          (λ k. ap (λ z. upto (nodes_at z k)) c.as_slice.ensures.value ∙ uses k) c.projected-projects.result c.projected-projects.ensures,
    )
