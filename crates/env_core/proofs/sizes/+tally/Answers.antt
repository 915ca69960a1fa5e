use Rattle.std.proofs.Common.{◌+◌, ◌*◌, ◌-◌, ◌^◌, min, drop, ap, ◌∙◌, arith}
use Rattle.term_core.specs.Term.{meaning, list_meaning}
use Rattle.env_theory.specs.Count.{by_nodes, by_height, joined, count_term, count_terms, spread}
use Rattle.env_theory.proofs.Caps.{nodes_cuts, height_cuts}
use Rattle.env_core.specs.Weights.{weights_of}
use Rattle.env_core.specs.Rows.{nodes_at, height_at, nodes_rows, height_rows}
use Rattle.env_core.proofs.Applications.{applied}
use Rattle.env_core.proofs.Spreads.{terms_split, spread_split, nodes_more, height_more, capped_result}
use Rattle.env_core.proofs.sizes.+tally.Goals as goal

pub terms_tally-loop-t-preserved : goal.terms_tally-loop-t-preserved
terms_tally-loop-t-preserved t c =
    let item = c.t-item.result in
    let i = c.loop-t.t-index in
    let w = weights_of c.args.weights in
    let R = nodes_rows c.args.env.now in
    let H = height_rows c.args.env.now in (
      nodes_more c.loop-t.all.nodes c.term_tally.result.nodes c.beside-all.result.nodes (count_term by_nodes R 1 w (meaning item))
          (count_terms by_nodes R 1 w (list_meaning (drop (i + 1) c.args.ts.now))) (count_terms by_nodes R 1 w (list_meaning
          (drop i c.args.ts.now)))
          (count_terms by_nodes R 1 w (list_meaning c.args.ts.now)) c.term_tally.ensures.nodes c.beside-all.ensures.nodes
          (terms_split by_nodes 1 w R c.args.ts.now i item c.loop-t-test.true c.t-item.is) c.loop-t.invariant.0,
      height_more c.loop-t.all.height c.term_tally.result.height c.beside-all.result.height (count_term by_height H 1 w (meaning item))
          (count_terms by_height H 1 w (list_meaning (drop (i + 1) c.args.ts.now))) (count_terms by_height H 1 w (list_meaning
          (drop i c.args.ts.now)))
          (count_terms by_height H 1 w (list_meaning c.args.ts.now)) c.term_tally.ensures.height c.beside-all.ensures.height
          (terms_split by_height 1 w H c.args.ts.now i item c.loop-t-test.true c.t-item.is) c.loop-t.invariant.1,
      capped_result _ _ c.beside-all.ensures.nodes,
      capped_result _ _ c.beside-all.ensures.height,
    )

pub spread_tally-loop-t-preserved : goal.spread_tally-loop-t-preserved
spread_tally-loop-t-preserved t c =
    let item = c.t-item.result in
    let i = c.loop-t.t-index in
    let v = c.loop-t.left - 1 in
    let w = weights_of c.args.weights in
    let R = nodes_rows c.args.env.now in
    let H = height_rows c.args.env.now in
    let x = count_term by_nodes R 1 w (meaning item) in
    let y = count_term by_height H 1 w (meaning item) in (
      nodes_more c.loop-t.all.nodes c.put.result.nodes c.beside-all.result.nodes (nodes_at c.args.uses.now v * x)
          (spread by_nodes R 1 w (nodes_at c.args.uses.now) (list_meaning (drop (i + 1) c.args.ts.now)))
          (spread by_nodes R 1 w (nodes_at c.args.uses.now) (list_meaning (drop i c.args.ts.now)))
          (spread by_nodes R 1 w (nodes_at c.args.uses.now) (list_meaning c.args.ts.now))
          (c.put.ensures.nodes x c.term_tally.ensures.nodes ∙ ap (λ u. min (u * x)
          (2 ^ 32)) c.uses_of.ensures.nodes) c.beside-all.ensures.nodes
          (spread_split by_nodes 1 w R c.args.ts.now i item c.loop-t-test.true c.t-item.is
          (nodes_at c.args.uses.now) c.loop-t.left c.loop-t.invariant.4)
          c.loop-t.invariant.0,
      height_more c.loop-t.all.height c.put.result.height c.beside-all.result.height (joined (height_at c.args.uses.now v) y)
          (spread by_height H 1 w (height_at c.args.uses.now) (list_meaning (drop (i + 1) c.args.ts.now)))
          (spread by_height H 1 w (height_at c.args.uses.now) (list_meaning (drop i c.args.ts.now)))
          (spread by_height H 1 w (height_at c.args.uses.now) (list_meaning c.args.ts.now))
          (c.put.ensures.height y c.term_tally.ensures.height
          ∙ ap (λ u. min (joined u y) (2 ^ 32)) c.uses_of.ensures.height) c.beside-all.ensures.height
          (spread_split by_height 1 w H c.args.ts.now i item c.loop-t-test.true c.t-item.is
          (height_at c.args.uses.now) c.loop-t.left c.loop-t.invariant.4)
          c.loop-t.invariant.1,
      capped_result _ _ c.beside-all.ensures.nodes,
      capped_result _ _ c.beside-all.ensures.height,
      omega (arith, c.loop-t.invariant.4, c.loop-t-test.true),
    )

pub term_tally-returns-in-App-clause-nodes : goal.term_tally-returns-in-App-clause-nodes
term_tally-returns-in-App-clause-nodes t c =
    c.head_tally.ensures.nodes ∙ applied by_nodes nodes_cuts 1 (weights_of c.args.weights)
    (nodes_rows c.args.env.now) c.in-App.f c.in-App.ts _
    c.as_slice.result.now c.args.t.now c.as_slice.ensures.value c.in-App.is c.function.ensures.nodes

pub term_tally-returns-in-App-clause-height : goal.term_tally-returns-in-App-clause-height
term_tally-returns-in-App-clause-height t c =
    c.head_tally.ensures.height ∙ applied by_height height_cuts 1 (weights_of c.args.weights)
    (height_rows c.args.env.now) c.in-App.f c.in-App.ts _
    c.as_slice.result.now c.args.t.now c.as_slice.ensures.value c.in-App.is c.function.ensures.height
