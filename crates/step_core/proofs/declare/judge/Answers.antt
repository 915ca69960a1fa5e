use Rattle.std.proofs.Common.{sym, subst, ◌∙◌}
use Rattle.env_core.specs.Meaning.{declarations}
use Rattle.elab_core.specs.Answers.{Declares as Types}
use Rattle.step_core.proofs.Judging.{judged_large}
use Rattle.step_core.proofs.declare.judge.Goals as goal

pub returns-in-Some : goal.returns-in-Some
returns-in-Some c =
    λ w t. judged_large (declarations c.args.env.now) c.in-Ok.decl w c.in-Some.nodes c.in-Some.height
    (subst (λ r. Types r w) c.in-Ok.is t) (sym c.in-Some.is ∙ c.normal_excess.ensures)
