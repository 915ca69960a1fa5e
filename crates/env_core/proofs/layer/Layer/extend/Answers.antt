use Rattle.std.proofs.Common.{◌≡◌, ◌≤◌, ap, subst, ◌∙◌}
use Rattle.std.specs.Arc.{arc_value}
use Rattle.env_core.specs.Layers.{entry_name, found}
use Rattle.env_core.proofs.Stacked.{none_of_it, all_of_it, next_is_new, next_put}
use Rattle.env_core.proofs.layer.Layer.extend.Goals as goal

pub loop-number-init : goal.loop-number-init
loop-number-init c = none_of_it c.args.newer.now c.args.self.now

pub push-requires : goal.push-requires
push-requires c =
    ap (λ ds. found ds (entry_name (arc_value c.at.result.now))) c.loop-number.invariant
    ∙ next_is_new c.args.newer.now c.args.self.now c.loop-number.number (arc_value c.at.result.now) c.at.ensures c.requires

pub loop-number-preserved : goal.loop-number-preserved
loop-number-preserved c =
    next_put c.args.newer.now c.args.self.now c.loop-number.number (arc_value c.at.result.now) c.loop-number.self
    c.push.new.self c.at.ensures
    c.loop-number.invariant c.in_ok-push.ensures.ok

pub returns : goal.returns
returns c =
    c.loop-number.invariant
    ∙ all_of_it c.args.newer.now c.args.self.now c.loop-number.number
    (subst (λ n. n ≤ c.loop-number.number) c.len-number-end.ensures c.loop-number-test.false)
