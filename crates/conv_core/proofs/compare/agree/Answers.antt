use Rattle.std.proofs.Common.{subst}
use Rattle.env_theory.specs.Compare.{Agree}
use Rattle.env_core.specs.Meaning.{declarations}
use Rattle.conv_core.specs.Pairs.{pair_of, StandingPairs}
use Rattle.conv_core.proofs.Compares.{start_loop, last_stands, loop_step, loop_fails}
use Rattle.conv_core.proofs.compare.agree.Goals as goal

pub loop-pair-init : goal.loop-pair-init
loop-pair-init c = start_loop
    (declarations c.args.env.now) c.args.frames.now.items c.new-stack.result.items c.push.new.self.items c.args.start
    c.new-stack.ensures.items c.in_ok-push.ensures.items c.requires.standing

pub split-requires-clause-standing : goal.split-requires-clause-standing
split-requires-clause-standing c = last_stands
    (declarations c.args.env.now) c.loop-pair.frames.items c.pop.new.self.items c.in-Some.pair (subst (StandingPairs
    (declarations c.args.env.now) c.loop-pair.frames.items) c.in-Some.ensures.items c.loop-pair.invariant.0)

pub returns-then-not-branch : goal.returns-then-not-branch
returns-then-not-branch c = (
  (λ h. cc),
  (λ y. absurd (loop_fails
      (declarations c.args.env.now) c.loop-pair.frames.items c.split.new.frames.items c.pop.new.self.items c.loop-pair.stack.items
      c.split.new.stack.items c.in-Some.pair c.in-Some.ensures.items (Agree (declarations c.args.env.now)
      (pair_of c.args.frames.now.items c.args.start)) c.loop-pair.invariant.1 c.in_ok-split.field-0 c.if-not-branch.true
      c.in_ok-split.ensures.split y)),
)

pub loop-pair-smaller : goal.loop-pair-smaller
loop-pair-smaller c = let w = loop_step
    (declarations c.args.env.now) c.loop-pair.frames.items c.split.new.frames.items c.in_ok-split.ensures.extends
    c.in_ok-split.ensures.ordered c.pop.new.self.items c.loop-pair.stack.items c.split.new.stack.items c.in-Some.pair
    c.in-Some.ensures.items c.loop-pair.invariant.0 (Agree (declarations c.args.env.now)
    (pair_of c.args.frames.now.items c.args.start)) c.loop-pair.invariant.1 c.in_ok-split.field-0 c.if-not-branch.false
    c.in_ok-split.ensures.split in
    w.2

pub loop-pair-preserved : goal.loop-pair-preserved
loop-pair-preserved c = let w = loop_step
    (declarations c.args.env.now) c.loop-pair.frames.items c.split.new.frames.items c.in_ok-split.ensures.extends
    c.in_ok-split.ensures.ordered c.pop.new.self.items c.loop-pair.stack.items c.split.new.stack.items c.in-Some.pair
    c.in-Some.ensures.items c.loop-pair.invariant.0 (Agree (declarations c.args.env.now)
    (pair_of c.args.frames.now.items c.args.start)) c.loop-pair.invariant.1 c.in_ok-split.field-0 c.if-not-branch.false
    c.in_ok-split.ensures.split in
    (w.0, w.1)
