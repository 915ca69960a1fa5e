use Rattle.std.proofs.Common.{arith}
use Rattle.std.proofs.lemmas.Grind.{common_steps}
use Rattle.term_core.specs.Term.{list_meaning}
use Rattle.env_theory.specs.Normal.{argument}
use Rattle.tac_eq.proofs.Arguments.{one_argument_more}
use Rattle.tac_eq.proofs.expand.in_order.Goals as goal

pub loop-i-preserved : goal.loop-i-preserved
loop-i-preserved c = record {
  size = grind (arith, common_steps);
  each = rw c.in_ok-push.ensures.items (one_argument_more (argument (list_meaning c.args.ts.now)) c.loop-i.terms.items
      c.in_ok-argument_for.field-0 c.loop-i.i c.loop-i.invariant.size c.in_ok-argument_for.ensures c.loop-i.invariant.each);
}
