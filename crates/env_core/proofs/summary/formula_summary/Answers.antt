use Rattle.std.proofs.Common.{◌≡◌, ℕ, ◌≤◌, ap, ◌∙◌, arith}
use Rattle.term_core.specs.Formula.{meaning}
use Rattle.env_theory.specs.Count.{by_nodes, by_height, count, only, upto}
use Rattle.env_theory.proofs.Scales.{nodes_laws, height_laws}
use Rattle.env_theory.proofs.Caps.{upto_twice}
use Rattle.env_core.specs.Meaning.{declarations}
use Rattle.env_core.specs.Rows.{nodes_table, height_table}
use Rattle.env_core.proofs.Weighing.{below_none}
use Rattle.env_core.proofs.Summing.{all_nodes, all_height, formula_beyond}
use Rattle.env_core.proofs.summary.formula_summary.Goals as goal

pub returns : goal.returns
returns c =
    let E = declarations c.args.env.now in
    let T = nodes_table c.args.env.now in
    let H = height_table c.args.env.now in
    let b = meaning c.args.body.now in
    let q = c.requires in
    let n = q.2 in
    let own = ap upto c.in_ok-own.ensures.nodes ∙ upto_twice _ ∙ ap (λ v. upto (count by_nodes T 1 v b)) below_none in
    let tall = ap upto c.in_ok-own.ensures.height ∙ upto_twice _ ∙ ap (λ v. upto (count by_height H 1 v b)) below_none in
    let uses = all_nodes c.in_ok-uses.uses.items c.args.params c.in_ok-uses.ensures.length (λ k. count by_nodes T 0 (only k) b)
    (λ k l. formula_beyond by_nodes nodes_laws T E q.0 b q.1 k (omega (arith, n, l))) c.in_ok-uses.ensures.nodes in
    let deep = all_height c.in_ok-uses.uses.items c.args.params c.in_ok-uses.ensures.length (λ k. count by_height H 0 (only k) b)
    (λ k l. formula_beyond by_height height_laws H E q.0 b q.1 k (omega (arith, n, l))) c.in_ok-uses.ensures.height in
    ((own, uses), (tall, deep))
