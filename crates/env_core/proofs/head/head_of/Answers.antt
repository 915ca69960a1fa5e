use Rattle.std.proofs.Common.{refl, sym, ap, ◌∙◌}
use Rattle.fol_theory.specs.Syntax.{pred}
use Rattle.term_core.specs.Term.{list_meaning}
use Rattle.term_core.specs.Formula.{meaning}
use Rattle.term_core.proofs.Variants.{meaning_Pred}
use Rattle.env_core.specs.Meaning.{declarations}
use Rattle.env_core.specs.Filled.{scope_of, formula_filled}
use Rattle.env_core.proofs.Filling.{head_step, other_head, undefined_head}
use Rattle.env_core.proofs.head.head_of.Goals as goal

pub loop-head-smaller : goal.loop-head-smaller
loop-head-smaller c =
    (head_step (declarations c.args.env.now) c.requires c.loop-head.frames.items c.push.new.self.items _ (meaning c.loop-head.head.now)
    c.in-Pred.p (list_meaning c.as_slice.result.now) (meaning c.in-Some.body.now)
    (ap meaning c.in-Pred.is ∙ meaning_Pred c.in-Pred.p c.in-Pred.ts
    ∙ ap (λ l. pred c.in-Pred.p (list_meaning l)) (sym c.as_slice.ensures.value))
    (sym c.in-Some.ensures) c.in_ok-push-in-Some.ensures.items refl).1

pub loop-head-preserved : goal.loop-head-preserved
loop-head-preserved c =
    (head_step (declarations c.args.env.now) c.requires c.loop-head.frames.items c.push.new.self.items _ (meaning c.loop-head.head.now)
    c.in-Pred.p (list_meaning c.as_slice.result.now) (meaning c.in-Some.body.now)
    (ap meaning c.in-Pred.is ∙ meaning_Pred c.in-Pred.p c.in-Pred.ts
    ∙ ap (λ l. pred c.in-Pred.p (list_meaning l)) (sym c.as_slice.ensures.value))
    (sym c.in-Some.ensures) c.in_ok-push-in-Some.ensures.items refl).0 ∙ c.loop-head.invariant

pub returns-in-None : goal.returns-in-None
returns-in-None c =
    ap (formula_filled (scope_of c.loop-head.frames.items) 0) (sym (undefined_head (declarations c.args.env.now) c.requires
    (meaning c.loop-head.head.now) c.in-Pred.p _ (ap meaning c.in-Pred.is ∙ meaning_Pred c.in-Pred.p c.in-Pred.ts)
    (sym c.in-None.ensures))) ∙ c.loop-head.invariant

pub returns-in_default : goal.returns-in_default
returns-in_default c =
    ap (formula_filled (scope_of c.loop-head.frames.items) 0) (sym (other_head (declarations c.args.env.now) c.loop-head.head.now
    (λ p ts e. c.in_default.not-Pred p ts e))) ∙ c.loop-head.invariant
