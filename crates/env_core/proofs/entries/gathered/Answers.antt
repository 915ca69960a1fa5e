use Rattle.std.proofs.Common.{◌≡◌, ◌++◌, subst, sym, ◌∙◌, arith}
use Rattle.std.proofs.Common.{[]}
use Rattle.env_core.specs.Layers.{AreApart, stacked}
use Rattle.env_core.proofs.Stacked.{may_go_under, is_apart, gone_under}
use Rattle.env_core.proofs.entries.gathered.Goals as goal

pub extend-requires : goal.extend-requires
extend-requires c =
    subst AreApart (λ j. sym c.deref-in-loop-kept.ensures j ++ sym c.new-whole.ensures j)
    (is_apart c.args.layers.now c.loop-kept.kept c.index-layers-kept-in-loop-kept.result c.loop-kept.newest
    (c.args.newest.now ++ stacked [] c.args.layers.now) c.loop-kept-test.true c.loop-kept.invariant.1 c.index-layers-kept-in-loop-kept.is
    c.loop-kept.invariant.0 c.requires)

pub extend-requires-in-loop-kept : goal.extend-requires-in-loop-kept
extend-requires-in-loop-kept c =
    subst (λ ds. AreApart (c.loop-kept.newest ++ ds))
    (sym (c.in_ok-extend.ensures ∙ (λ j. c.deref-in-loop-kept.ensures j ++ c.new-whole.ensures j)))
    (may_go_under c.args.layers.now c.loop-kept.kept c.index-layers-kept-in-loop-kept.result c.loop-kept.newest
    (c.args.newest.now ++ stacked [] c.args.layers.now) c.loop-kept-test.true c.loop-kept.invariant.1 c.index-layers-kept-in-loop-kept.is
    c.loop-kept.invariant.0 c.requires)

pub loop-kept-preserved : goal.loop-kept-preserved
loop-kept-preserved c = (
  gone_under c.args.layers.now c.loop-kept.kept c.index-layers-kept-in-loop-kept.result c.loop-kept.newest c.extend.new.self
      c.extend-in-loop-kept.new.self (c.args.newest.now ++ stacked [] c.args.layers.now) c.loop-kept-test.true c.loop-kept.invariant.1
      c.index-layers-kept-in-loop-kept.is c.loop-kept.invariant.0
      (c.in_ok-extend.ensures ∙ (λ j. c.deref-in-loop-kept.ensures j ++ c.new-whole.ensures j)) c.in_ok-extend-2.ensures,
  omega (arith, c.loop-kept.invariant.1),
)
