use Rattle.std.proofs.Common.{ℕ, ◌+◌, ◌*◌, ◌<◌, ◌^◌, min, max, sym, ap, subst, ◌∙◌}
use Rattle.env_theory.specs.Count.{by_nodes, by_height, joined, only}
use Rattle.env_theory.proofs.Caps.{nodes_cuts, height_cuts}
use Rattle.env_core.specs.Rows.{nodes_at, height_at, nodes_table, height_table}
use Rattle.env_core.proofs.Added.{nodes_alike, height_alike}
use Rattle.env_core.proofs.Applications.{applied_predicate}
use Rattle.env_core.proofs.Formulas.{and_counts, or_counts, imp_counts, all_uses, ex_uses}
use Rattle.env_core.proofs.Results.{on_ok}
use Rattle.env_core.proofs.Sides.{nodes_sides, height_sides}
use Rattle.env_core.proofs.uses.+add_formula_uses.Goals as goal

pub add_formula_uses-returns-in-Pred-clause-nodes : goal.add_formula_uses-returns-in-Pred-clause-nodes
add_formula_uses-returns-in-Pred-clause-nodes t c = λ k h. c.add_head.ensures.nodes k h
    ∙ nodes_alike (nodes_at c.args.uses.now k) c.args.times.nodes _ _
    (applied_predicate by_nodes nodes_cuts 0 (only (k + c.args.binders))
    (nodes_table c.args.env.now) c.in-Pred.p c.in-Pred.ts _ c.as_slice.result.now c.args.a.now
    c.as_slice.ensures.value c.in-Pred.is c.predicate.ensures.nodes)

pub add_formula_uses-returns-in_ok-add_formula_uses-in-And-clause-nodes :
    goal.add_formula_uses-returns-in_ok-add_formula_uses-in-And-clause-nodes
add_formula_uses-returns-in_ok-add_formula_uses-in-And-clause-nodes t c = on_ok c.add_formula_uses-in-And.result (λ f k h.
    nodes_sides (nodes_at c.args.uses.now k) c.args.times.nodes c.through-deeper.result.nodes (nodes_at c.add_formula_uses.new.uses k)
    (nodes_at c.add_formula_uses-in-And.new.uses k) _ _ _
    c.through-deeper.ensures.nodes (c.in_ok-add_formula_uses-in-And.ensures.nodes k h) (f k (subst (λ n. k < n)
    (sym c.in_ok-add_formula_uses-in-And.ensures.length) h))
    (and_counts by_nodes (nodes_table c.args.env.now) 0 (only
    (k + c.args.binders)) c.args.a.now c.in-And.a c.in-And.b c.deref.result.now c.deref-in-And.result.now c.in-And.is
    c.deref.ensures c.deref-in-And.ensures)) c.add_formula_uses-in-And.ensures.nodes

pub add_formula_uses-returns-in_ok-add_formula_uses-in-Or-clause-nodes :
    goal.add_formula_uses-returns-in_ok-add_formula_uses-in-Or-clause-nodes
add_formula_uses-returns-in_ok-add_formula_uses-in-Or-clause-nodes t c = on_ok c.add_formula_uses-in-Or-2.result (λ f k h.
    nodes_sides (nodes_at c.args.uses.now k) c.args.times.nodes c.through-deeper-in-Or.result.nodes
    (nodes_at c.add_formula_uses-in-Or.new.uses k) (nodes_at c.add_formula_uses-in-Or-2.new.uses k) _ _ _
    c.through-deeper-in-Or.ensures.nodes (c.in_ok-add_formula_uses-in-Or.ensures.nodes k h) (f k (subst (λ n. k < n)
    (sym c.in_ok-add_formula_uses-in-Or.ensures.length) h))
    (or_counts by_nodes (nodes_table c.args.env.now) 0 (only
    (k + c.args.binders)) c.args.a.now c.in-Or.a c.in-Or.b c.deref-in-Or.result.now c.deref-in-Or-2.result.now c.in-Or.is
    c.deref-in-Or.ensures c.deref-in-Or-2.ensures)) c.add_formula_uses-in-Or-2.ensures.nodes

pub add_formula_uses-returns-in_ok-add_formula_uses-in-Imp-clause-nodes :
    goal.add_formula_uses-returns-in_ok-add_formula_uses-in-Imp-clause-nodes
add_formula_uses-returns-in_ok-add_formula_uses-in-Imp-clause-nodes t c = on_ok c.add_formula_uses-in-Imp-2.result (λ f k h.
    nodes_sides (nodes_at c.args.uses.now k) c.args.times.nodes c.through-deeper-in-Imp.result.nodes
    (nodes_at c.add_formula_uses-in-Imp.new.uses k) (nodes_at c.add_formula_uses-in-Imp-2.new.uses k) _ _ _
    c.through-deeper-in-Imp.ensures.nodes (c.in_ok-add_formula_uses-in-Imp.ensures.nodes k h) (f k (subst (λ n. k < n)
    (sym c.in_ok-add_formula_uses-in-Imp.ensures.length) h))
    (imp_counts by_nodes (nodes_table c.args.env.now) 0 (only
    (k + c.args.binders)) c.args.a.now c.in-Imp.a c.in-Imp.b c.deref-in-Imp.result.now c.deref-in-Imp-2.result.now c.in-Imp.is
    c.deref-in-Imp.ensures c.deref-in-Imp-2.ensures)) c.add_formula_uses-in-Imp-2.ensures.nodes

pub add_formula_uses-returns-in-All-clause-nodes : goal.add_formula_uses-returns-in-All-clause-nodes
add_formula_uses-returns-in-All-clause-nodes t c = on_ok c.add_below.result (λ f k h. f k h
    ∙ ap (λ z. min (nodes_at c.args.uses.now k + c.args.times.nodes * z) (2 ^ 32))
    (sym (all_uses by_nodes (nodes_table c.args.env.now) k c.args.binders c.args.a.now _ _ c.in-All.a c.deref-in-All.result.now
    c.in-All.is c.deref-in-All.ensures)))
    c.add_below.ensures.nodes

pub add_formula_uses-returns-in-Ex-clause-nodes : goal.add_formula_uses-returns-in-Ex-clause-nodes
add_formula_uses-returns-in-Ex-clause-nodes t c = on_ok c.add_below-in-Ex.result (λ f k h. f k h
    ∙ ap (λ z. min (nodes_at c.args.uses.now k + c.args.times.nodes * z) (2 ^ 32))
    (sym (ex_uses by_nodes (nodes_table c.args.env.now) k c.args.binders c.args.a.now _ _ c.in-Ex.a c.deref-in-Ex.result.now c.in-Ex.is
    c.deref-in-Ex.ensures)))
    c.add_below-in-Ex.ensures.nodes

pub add_formula_uses-returns-in-Pred-clause-height : goal.add_formula_uses-returns-in-Pred-clause-height
add_formula_uses-returns-in-Pred-clause-height t c = λ k h. c.add_head.ensures.height k h
    ∙ height_alike (height_at c.args.uses.now k) c.args.times.height _ _
    (applied_predicate by_height height_cuts 0 (only (k + c.args.binders))
    (height_table c.args.env.now) c.in-Pred.p c.in-Pred.ts _ c.as_slice.result.now c.args.a.now
    c.as_slice.ensures.value c.in-Pred.is c.predicate.ensures.height)

pub add_formula_uses-returns-in_ok-add_formula_uses-in-And-clause-height :
    goal.add_formula_uses-returns-in_ok-add_formula_uses-in-And-clause-height
add_formula_uses-returns-in_ok-add_formula_uses-in-And-clause-height t c = on_ok c.add_formula_uses-in-And.result (λ f k h.
    height_sides (height_at c.args.uses.now k) c.args.times.height c.through-deeper.result.height
    (height_at c.add_formula_uses.new.uses k) (height_at c.add_formula_uses-in-And.new.uses k) _ _ _
    c.through-deeper.ensures.height (c.in_ok-add_formula_uses-in-And.ensures.height k h) (f k (subst (λ n. k < n)
    (sym c.in_ok-add_formula_uses-in-And.ensures.length) h))
    (and_counts by_height (height_table c.args.env.now) 0 (only
    (k + c.args.binders)) c.args.a.now c.in-And.a c.in-And.b c.deref.result.now c.deref-in-And.result.now c.in-And.is
    c.deref.ensures c.deref-in-And.ensures)) c.add_formula_uses-in-And.ensures.height

pub add_formula_uses-returns-in_ok-add_formula_uses-in-Or-clause-height :
    goal.add_formula_uses-returns-in_ok-add_formula_uses-in-Or-clause-height
add_formula_uses-returns-in_ok-add_formula_uses-in-Or-clause-height t c = on_ok c.add_formula_uses-in-Or-2.result (λ f k h.
    height_sides (height_at c.args.uses.now k) c.args.times.height c.through-deeper-in-Or.result.height
    (height_at c.add_formula_uses-in-Or.new.uses k) (height_at c.add_formula_uses-in-Or-2.new.uses k) _ _ _
    c.through-deeper-in-Or.ensures.height (c.in_ok-add_formula_uses-in-Or.ensures.height k h) (f k (subst (λ n. k < n)
    (sym c.in_ok-add_formula_uses-in-Or.ensures.length) h))
    (or_counts by_height (height_table c.args.env.now) 0 (only
    (k + c.args.binders)) c.args.a.now c.in-Or.a c.in-Or.b c.deref-in-Or.result.now c.deref-in-Or-2.result.now c.in-Or.is
    c.deref-in-Or.ensures c.deref-in-Or-2.ensures)) c.add_formula_uses-in-Or-2.ensures.height

pub add_formula_uses-returns-in_ok-add_formula_uses-in-Imp-clause-height :
    goal.add_formula_uses-returns-in_ok-add_formula_uses-in-Imp-clause-height
add_formula_uses-returns-in_ok-add_formula_uses-in-Imp-clause-height t c = on_ok c.add_formula_uses-in-Imp-2.result (λ f k h.
    height_sides (height_at c.args.uses.now k) c.args.times.height c.through-deeper-in-Imp.result.height
    (height_at c.add_formula_uses-in-Imp.new.uses k) (height_at c.add_formula_uses-in-Imp-2.new.uses k) _ _ _
    c.through-deeper-in-Imp.ensures.height (c.in_ok-add_formula_uses-in-Imp.ensures.height k h) (f k (subst (λ n. k < n)
    (sym c.in_ok-add_formula_uses-in-Imp.ensures.length) h))
    (imp_counts by_height (height_table c.args.env.now) 0 (only
    (k + c.args.binders)) c.args.a.now c.in-Imp.a c.in-Imp.b c.deref-in-Imp.result.now c.deref-in-Imp-2.result.now c.in-Imp.is
    c.deref-in-Imp.ensures c.deref-in-Imp-2.ensures)) c.add_formula_uses-in-Imp-2.ensures.height

pub add_formula_uses-returns-in-All-clause-height : goal.add_formula_uses-returns-in-All-clause-height
add_formula_uses-returns-in-All-clause-height t c = on_ok c.add_below.result (λ f k h. f k h
    ∙ ap (λ z. min (max (height_at c.args.uses.now k) (joined c.args.times.height z)) (2 ^ 32))
    (sym (all_uses by_height (height_table c.args.env.now) k c.args.binders c.args.a.now _ _ c.in-All.a c.deref-in-All.result.now
    c.in-All.is c.deref-in-All.ensures)))
    c.add_below.ensures.height

pub add_formula_uses-returns-in-Ex-clause-height : goal.add_formula_uses-returns-in-Ex-clause-height
add_formula_uses-returns-in-Ex-clause-height t c = on_ok c.add_below-in-Ex.result (λ f k h. f k h
    ∙ ap (λ z. min (max (height_at c.args.uses.now k) (joined c.args.times.height z)) (2 ^ 32))
    (sym (ex_uses by_height (height_table c.args.env.now) k c.args.binders c.args.a.now _ _ c.in-Ex.a c.deref-in-Ex.result.now
    c.in-Ex.is c.deref-in-Ex.ensures)))
    c.add_below-in-Ex.ensures.height
