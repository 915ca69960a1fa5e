use Rattle.std.proofs.lemmas.Result.{IfOk-weaker}
use Rattle.term_core.specs.Formula.{meaning}
use Rattle.kernel_core.specs.Sites.{context_at, environment, goal_at, sorts_at}
use Rattle.kernel_core.proofs.Asked.{hypothesis_formed, hypothesis_asked}
use Rattle.kernel_core.proofs.rules.hyp.Goals as goal

pub is_goal-requires-clause-formed : goal.is_goal-requires-clause-formed
is_goal-requires-clause-formed c = (
  sorts_at c.args.site.now,
  hypothesis_formed (environment c.args.site.now) (context_at c.args.site.now) c.args.number (meaning c.in-Some.a) c.requires.0.0
      (rw c.in-Some.is at c.in_ok-hypothesis.ensures),
  c.requires.1,
)

pub returns-in-Some : goal.returns-in-Some
returns-in-Some c =
    IfOk-weaker c.is_goal.result _ _ (λ r k. hypothesis_asked (environment c.args.site.now) (context_at c.args.site.now)
    (goal_at c.args.site.now) c.args.number (meaning c.in-Some.a) (rw c.in-Some.is at c.in_ok-hypothesis.ensures) r k)
    c.is_goal.ensures
