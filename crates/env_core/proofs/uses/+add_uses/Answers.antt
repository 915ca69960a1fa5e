use Rattle.std.proofs.Common.{◌+◌, ◌*◌, ◌<◌, ◌^◌, min, max, sym, ap, subst, ◌∙◌, arith}
use Rattle.env_theory.specs.Count.{by_nodes, by_height, joined, only, upto}
use Rattle.env_theory.proofs.Scales.{nodes_laws, height_laws}
use Rattle.env_theory.proofs.Caps.{nodes_cuts, height_cuts}
use Rattle.env_core.specs.Rows.{nodes_at, height_at, nodes_rows, height_rows}
use Rattle.env_core.proofs.Applications.{applied}
use Rattle.env_core.proofs.Added.{nodes_alike, height_alike}
use Rattle.env_core.proofs.Spreads.{all_step, spread_step}
use Rattle.env_core.proofs.uses.+add_uses.Goals as goal

pub add_all-loop-t-preserved : goal.add_all-loop-t-preserved
add_all-loop-t-preserved t c = (
  c.add_uses.ensures.length ∙ c.loop-t.invariant.0,
  λ k h. all_step by_nodes nodes_laws nodes_cuts (nodes_rows c.args.env.now)
      (k + c.args.binders) c.args.ts.now c.loop-t.t-index c.t-item.result
      c.loop-t-test.true c.t-item.is (nodes_at c.loop-t.uses k) c.args.times.nodes (nodes_at c.add_uses.new.uses k) _
      (c.add_uses.ensures.nodes k (subst (λ n. k < n) (sym c.loop-t.invariant.0) h)) (c.loop-t.invariant.1 k h),
  λ k h. all_step by_height height_laws height_cuts (height_rows c.args.env.now) (k + c.args.binders) c.args.ts.now c.loop-t.t-index
      c.t-item.result c.loop-t-test.true c.t-item.is (height_at c.loop-t.uses k) c.args.times.height (height_at c.add_uses.new.uses k) _
      (c.add_uses.ensures.height k (subst (λ n. k < n) (sym c.loop-t.invariant.0) h)) (c.loop-t.invariant.2 k h),
)

pub add_spread-loop-t-preserved : goal.add_spread-loop-t-preserved
add_spread-loop-t-preserved t c = (
  c.add_uses.ensures.length ∙ c.loop-t.invariant.0,
  omega (arith, c.loop-t.invariant.1, c.loop-t-test.true),
  λ k h. spread_step by_nodes nodes_laws nodes_cuts (nodes_rows c.args.env.now) (k + c.args.binders) c.args.ts.now c.loop-t.t-index
      c.t-item.result c.loop-t-test.true c.t-item.is (nodes_at c.args.body.now) c.loop-t.left (nodes_at c.loop-t.uses k) c.args.times.nodes
      c.uses_of.result.nodes c.through.result.nodes (nodes_at c.add_uses.new.uses k) _ c.loop-t.invariant.1 c.uses_of.ensures.nodes
      c.through.ensures.nodes (c.add_uses.ensures.nodes k (subst (λ n. k < n) (sym c.loop-t.invariant.0) h)) (c.loop-t.invariant.2 k h),
  λ k h. spread_step by_height height_laws height_cuts (height_rows c.args.env.now) (k + c.args.binders) c.args.ts.now c.loop-t.t-index
      c.t-item.result c.loop-t-test.true c.t-item.is (height_at c.args.body.now) c.loop-t.left (height_at c.loop-t.uses k)
      c.args.times.height c.uses_of.result.height c.through.result.height (height_at c.add_uses.new.uses k) _ c.loop-t.invariant.1
      c.uses_of.ensures.height c.through.ensures.height
      (c.add_uses.ensures.height k (subst (λ n. k < n) (sym c.loop-t.invariant.0) h)) (c.loop-t.invariant.3 k h),
)

pub add_uses-returns-in-App-clause-nodes : goal.add_uses-returns-in-App-clause-nodes
add_uses-returns-in-App-clause-nodes t c = λ k h. c.add_head.ensures.nodes k h
    ∙ nodes_alike (nodes_at c.args.uses.now k) c.args.times.nodes _ _
    (applied by_nodes nodes_cuts 0 (only (k + c.args.binders)) (nodes_rows c.args.env.now) c.in-App.f c.in-App.ts _ c.as_slice.result.now
    c.args.t.now c.as_slice.ensures.value c.in-App.is c.function.ensures.nodes)

pub add_uses-returns-in-App-clause-height : goal.add_uses-returns-in-App-clause-height
add_uses-returns-in-App-clause-height t c = λ k h. c.add_head.ensures.height k h
    ∙ height_alike (height_at c.args.uses.now k) c.args.times.height _ _
    (applied by_height height_cuts 0 (only (k + c.args.binders)) (height_rows c.args.env.now) c.in-App.f c.in-App.ts _ c.as_slice.result.now
    c.args.t.now c.as_slice.ensures.value c.in-App.is c.function.ensures.height)
