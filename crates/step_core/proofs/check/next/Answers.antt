use Rattle.std.proofs.Common.{Some, option_map, sym, ap, ◌∙◌}
use Rattle.env_core.specs.Meaning.{declarations}
use Rattle.step_core.proofs.Keeping.{next_formed, next_kept}
use Rattle.step_core.proofs.check.next.Goals as goal

pub step-requires-clause-formed : goal.step-requires-clause-formed
step-requires-clause-formed c =
    next_formed (declarations c.args.state.now.env) _ c.args.state.now.proof c.in-Some-Of.lemma c.env.ensures
    (sym c.proof.ensures.proof ∙ ap (option_map (λ p. p.now)) c.in-Some-Of.is ∙ ap Some c.in-Some-Of.field-0-is) c.proof.ensures.kept

pub returns-clause-next : goal.returns-clause-next
returns-clause-next c =
    next_kept (declarations c.args.state.now.env) _ c.args.state.now.proof c.in-Some-Of.lemma c.step.result c.env.ensures
    (sym c.proof.ensures.proof ∙ ap (option_map (λ p. p.now)) c.in-Some-Of.is ∙ ap Some c.in-Some-Of.field-0-is) c.proof.ensures.kept
    c.step.ensures.fits
