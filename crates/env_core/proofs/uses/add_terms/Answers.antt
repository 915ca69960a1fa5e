use Rattle.std.proofs.Common.{◌<◌, refl, sym, subst}
use Rattle.env_core.specs.Rows.{nodes_at, height_at}
use Rattle.env_core.proofs.Sides.{nodes_sides, height_sides}
use Rattle.env_core.proofs.uses.add_terms.Goals as goal

pub returns-clause-nodes : goal.returns-clause-nodes
returns-clause-nodes c = λ k h. nodes_sides (nodes_at c.args.uses.now k) c.args.times.nodes c.through-deeper.result.nodes
    (nodes_at c.add_uses.new.uses k) (nodes_at c.add_uses-2.new.uses k) _ _ _
    c.through-deeper.ensures.nodes (c.add_uses.ensures.nodes k h)
    (c.add_uses-2.ensures.nodes k (subst (λ n. k < n) (sym c.add_uses.ensures.length) h)) refl

pub returns-clause-height : goal.returns-clause-height
returns-clause-height c = λ k h. height_sides (height_at c.args.uses.now k) c.args.times.height c.through-deeper.result.height
    (height_at c.add_uses.new.uses k) (height_at c.add_uses-2.new.uses k) _ _ _
    c.through-deeper.ensures.height (c.add_uses.ensures.height k h)
    (c.add_uses-2.ensures.height k (subst (λ n. k < n) (sym c.add_uses.ensures.length) h)) refl
