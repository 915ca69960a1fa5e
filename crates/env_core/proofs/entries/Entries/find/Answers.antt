use Rattle.std.proofs.Common.{◌≡◌, [], ap, subst, sym, ◌∙◌}
use Rattle.env_core.specs.Layers.{found, AreApart, stacked}
use Rattle.env_core.proofs.Stacked.{layer_answers, layer_passed}
use Rattle.env_core.proofs.entries.Entries.find.Goals as goal

pub returns-then-is_some : goal.returns-then-is_some
returns-then-is_some c =
    let same = c.deref-layer-items.ensures.value in
    layer_answers c.deref-layer-items.result.now c.loop-layer.layer-index c.layer-item.result c.loop-layer-test.true c.layer-item.is
    (λ e. e.now) c.find-found.result c.args.name.now
    (subst (λ ls. AreApart (stacked [] ls)) (sym same) c.self.invariant.0)
    (c.find-found.ensures ∙ ap (λ l. found l c.args.name.now) c.deref.ensures) (sym c.is_some.ensures ∙ c.if-is_some.true)
    ∙ ap (λ ls. found (stacked [] ls) c.args.name.now) same ∙ ap (λ ds. found ds c.args.name.now) c.self.view_is

pub loop-layer-preserved : goal.loop-layer-preserved
loop-layer-preserved c =
    layer_passed c.deref-layer-items.result.now c.loop-layer.layer-index c.layer-item.result c.loop-layer-test.true c.layer-item.is
    (λ e. e.now) c.find-found.result c.args.name.now
    (c.find-found.ensures ∙ ap (λ l. found l c.args.name.now) c.deref.ensures) (sym c.is_some.ensures ∙ c.if-is_some.false)
    c.loop-layer.invariant
