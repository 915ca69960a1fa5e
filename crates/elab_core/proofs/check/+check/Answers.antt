use Rattle.std.proofs.Common.{subst}
use Rattle.env_core.specs.Meaning.{declarations}
use Rattle.elab_core.specs.Scopes.{locals}
use Rattle.elab_core.specs.Faults.{Gives}
use Rattle.elab_core.proofs.Trees.{sort_given}
use Rattle.elab_core.proofs.check.+check.Goals as goal

pub check_term-returns-in-App : goal.check_term-returns-in-App
check_term-returns-in-App t c = subst (λ w. Gives (λ s. s.now) c.check_application.result w) (sort_given (declarations c.args.env.now)
    (locals c.args.context.now c.args.binders.now) c.args.a.now c.in-App.x c.in-App.ys c.in-App.field-2 c.deref.result.now c.in-App.is
    c.deref.ensures.value) c.check_application.ensures
