use Rattle.std.proofs.Common.{◌≡◌, ◌+◌, ◌-◌, ◌≤◌, [], length, take, ap, subst, sym, ◌∙◌}
use Rattle.std.specs.Arc.{arc_value}
use Rattle.fol_theory.specs.Contexts.{IsFromLast}
use Rattle.env_core.specs.Layers.{stacked}
use Rattle.env_core.proofs.Stacked.{layer_has, layer_counted}
use Rattle.env_core.proofs.entries.Entries.at.Goals as goal

pub returns-then-left-here : goal.returns-then-left-here
returns-then-left-here c =
    let there = layer_has c.deref-layer-items.result.now c.loop-layer.layer-index c.layer-item.result c.loop-layer-test.true c.layer-item.is
    c.loop-layer.left c.args.number c.loop-layer.invariant (arc_value c.at.result.now)
    (subst (λ l. IsFromLast l c.loop-layer.left (arc_value c.at.result.now)) c.deref-then-left-here.ensures c.at.ensures) in
    subst (λ ds. IsFromLast ds c.args.number c.deref-then-left-here-2.result.now)
    (ap (stacked []) c.deref-layer-items.ensures.value ∙ c.self.view_is)
    (subst (λ x. IsFromLast (stacked [] c.deref-layer-items.result.now) c.args.number x) (sym c.deref-then-left-here-2.ensures) there)

pub loop-layer-preserved : goal.loop-layer-preserved
loop-layer-preserved c =
    let same = c.len-here.ensures ∙ ap length c.deref.ensures in
    subst (λ n. (c.loop-layer.left - n) + length (stacked [] (take (c.loop-layer.layer-index + 1) c.deref-layer-items.result.now))
    ≡ c.args.number) (sym same)
    (layer_counted c.deref-layer-items.result.now c.loop-layer.layer-index c.layer-item.result c.loop-layer-test.true c.layer-item.is
    c.loop-layer.left c.args.number c.loop-layer.invariant (subst (λ n. n ≤ c.loop-layer.left) same c.if-left-here.false))
