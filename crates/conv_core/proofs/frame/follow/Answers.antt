use Rattle.std.proofs.Common.{◌+◌, ◌<◌, ◌^◌, sym, ap, subst, ◌∙◌, arith}
use Rattle.env_theory.specs.Machine.{leads, Holds, unders, place}
use Rattle.conv_core.specs.Frames.{scope_of, framed}
use Rattle.conv_core.specs.declared.frame.Frame.TheVariants.{Body, Under}
use Rattle.env_core.proofs.Filling.{many_terms}
use Rattle.conv_core.proofs.Scoped.{below, leads_under, holds_under, at_whole}
use Rattle.conv_core.proofs.frame.follow.Goals as goal

pub argument_of-requires : goal.argument_of-requires
argument_of-requires c =
    let b = below c.args.frames.now c.loop-scope.scope _
    (Body c.in-Body.ts c.in-Body.outer) c.requires.ordered c.loop-scope-test.true c.loop-scope.invariant.1 c.in-Body.is in
    subst (λ n. c.loop-scope.index < n) (many_terms c.in-Body.ts.now) (subst (λ s. Holds s c.loop-scope.index) b.0 c.loop-scope.invariant.2)

pub returns-in-Body-clause-spot : goal.returns-in-Body-clause-spot
returns-in-Body-clause-spot c =
    let b = below c.args.frames.now c.loop-scope.scope _
    (Body c.in-Body.ts c.in-Body.outer) c.requires.ordered c.loop-scope-test.true c.loop-scope.invariant.1 c.in-Body.is in
    ap (place (scope_of c.args.frames.now c.in-Body.outer) c.loop-scope.by) c.argument_of.ensures
    ∙ ap (λ s. leads s c.loop-scope.by c.loop-scope.index) (sym b.0) ∙ c.loop-scope.invariant.0

pub returns-then-index-eq0-clause-spot : goal.returns-then-index-eq0-clause-spot
returns-then-index-eq0-clause-spot c =
    let b = below c.args.frames.now c.loop-scope.scope _
    (Under c.in-Under.outer) c.requires.ordered c.loop-scope-test.true c.loop-scope.invariant.1 c.in-Under.is in
    ap (leads (framed (scope_of c.args.frames.now) (Under c.in-Under.outer)) c.loop-scope.by) (sym c.if-index-eq0.true)
    ∙ ap (λ s. leads s c.loop-scope.by c.loop-scope.index) (sym b.0) ∙ c.loop-scope.invariant.0

pub overflow_add-by : goal.overflow_add-by
overflow_add-by c =
    let b = below c.args.frames.now c.loop-scope.scope _
    (Under c.in-Under.outer) c.requires.ordered c.loop-scope-test.true c.loop-scope.invariant.1 c.in-Under.is in
    let k = subst (λ s. c.loop-scope.by + unders s < 2 ^ 64) b.0 c.loop-scope.invariant.3 in omega (arith, k)

pub loop-scope-preserved : goal.loop-scope-preserved
loop-scope-preserved c =
    let b = below c.args.frames.now c.loop-scope.scope _
    (Under c.in-Under.outer) c.requires.ordered c.loop-scope-test.true c.loop-scope.invariant.1 c.in-Under.is in
    let k = subst (λ s. c.loop-scope.by + unders s < 2 ^ 64) b.0 c.loop-scope.invariant.3 in (
      leads_under (scope_of c.args.frames.now c.in-Under.outer) c.loop-scope.by c.loop-scope.index c.if-index-eq0.false
          ∙ ap (λ s. leads s c.loop-scope.by c.loop-scope.index) (sym b.0) ∙ c.loop-scope.invariant.0,
      omega (arith, b.1, c.loop-scope.invariant.1),
      holds_under (scope_of c.args.frames.now c.in-Under.outer) c.loop-scope.index c.if-index-eq0.false (subst
          (λ s. Holds s c.loop-scope.index) b.0 c.loop-scope.invariant.2),
      omega (arith, k),
    )

pub loop-scope-smaller : goal.loop-scope-smaller
loop-scope-smaller c =
    let b = below c.args.frames.now c.loop-scope.scope _
    (Under c.in-Under.outer) c.requires.ordered c.loop-scope-test.true c.loop-scope.invariant.1 c.in-Under.is in b.1

pub overflow_add-result : goal.overflow_add-result
overflow_add-result c = let k = c.requires.free (c.loop-scope.index + c.loop-scope.by) (sym c.loop-scope.invariant.0
    ∙ ap (λ s. leads s c.loop-scope.by c.loop-scope.index)
    (at_whole c.args.frames.now c.loop-scope.scope c.loop-scope-test.false)) in omega (arith, k)

pub returns-clause-spot : goal.returns-clause-spot
returns-clause-spot c =
    ap (λ s. leads s c.loop-scope.by c.loop-scope.index) (sym
    (at_whole c.args.frames.now c.loop-scope.scope c.loop-scope-test.false)) ∙ c.loop-scope.invariant.0

pub returns-in-Body-clause-within : goal.returns-in-Body-clause-within
returns-in-Body-clause-within c =
    let b = below c.args.frames.now c.loop-scope.scope _
    (Body c.in-Body.ts c.in-Body.outer) c.requires.ordered c.loop-scope-test.true c.loop-scope.invariant.1 c.in-Body.is in
    omega (arith, b.1, c.loop-scope.invariant.1)
