use Rattle.std.proofs.Common.{sym, ap, ◌∙◌, arith}
use Rattle.fol_theory.specs.Syntax.{is_name}
use Rattle.term_core.specs.Context.{slots}
use Rattle.env_core.specs.Meaning.{declarations}
use Rattle.elab_theory.specs.Locals.{bound, locals_in}
use Rattle.elab_core.proofs.Scoped.{binder_here, binder_there}
use Rattle.elab_core.proofs.scope.look_up.Goals as goal

pub returns-then-eq : goal.returns-then-eq
returns-then-eq c =
    ap (λ b. bound c.binders.variables b.sort) c.index-binders-i.is
    ∙ sym (binder_here (declarations c.args.env.now) (locals_in (slots c.args.context.now)) c.args.binders.now c.binders.i _ c.args.name.now
    c.binders.variables (omega (arith, c.binders-test.true)) (omega (arith, c.binders.invariant.0))
    (ap (λ b. is_name b.name c.args.name.now) (sym c.index-binders-i.is) ∙ sym c.eq.ensures ∙ c.if-eq.true))
    ∙ c.binders.invariant.1

pub binders-preserved : goal.binders-preserved
binders-preserved c = (
  omega (arith, c.binders.invariant.0, c.binders-test.true),
  sym (binder_there (declarations c.args.env.now) (locals_in (slots c.args.context.now)) c.args.binders.now c.binders.i _ c.args.name.now
      c.binders.variables (omega (arith, c.binders-test.true)) (omega (arith, c.binders.invariant.0))
      (ap (λ b. is_name b.name c.args.name.now) (sym c.index-binders-i.is) ∙ sym c.eq.ensures ∙ c.if-eq.false))
      ∙ c.binders.invariant.1,
)
