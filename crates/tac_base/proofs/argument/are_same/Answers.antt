use Rattle.fol_theory.specs.Contexts.{variables}
use Rattle.fol_theory.specs.Slots.{entries}
use Rattle.tac_base.specs.Sites.{env_of, goal_at}
use Rattle.tac_base.proofs.Paired.{pair_formed, pair_same}
use Rattle.tac_base.proofs.argument.are_same.Goals as goal

pub is_same-requires-clause-first : goal.is_same-requires-clause-first
is_same-requires-clause-first c =
    (pair_formed (env_of c.args.site.now) c.args.must.now c.loop-pair.pair-index c.pair-item.result c.loop-pair-test.true c.pair-item.is
    (variables (entries (goal_at c.args.site.now).slots)) c.loop-pair.invariant.formed).0

pub is_same-requires-clause-second : goal.is_same-requires-clause-second
is_same-requires-clause-second c =
    (pair_formed (env_of c.args.site.now) c.args.must.now c.loop-pair.pair-index c.pair-item.result c.loop-pair-test.true c.pair-item.is
    (variables (entries (goal_at c.args.site.now).slots)) c.loop-pair.invariant.formed).1

pub loop-pair-preserved : goal.loop-pair-preserved
loop-pair-preserved c = record {
  same = pair_same (env_of c.args.site.now) c.args.must.now c.loop-pair.pair-index c.pair-item.result c.loop-pair-test.true c.pair-item.is
      c.loop-pair.invariant.same (c.in_ok-is_same.ensures.0 c.if-not-branch.false);
  formed = (pair_formed (env_of c.args.site.now) c.args.must.now c.loop-pair.pair-index c.pair-item.result c.loop-pair-test.true c.pair-item.is
      (variables (entries (goal_at c.args.site.now).slots)) c.loop-pair.invariant.formed).2;
}
