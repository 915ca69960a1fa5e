use Rattle.std.proofs.Common.{sym, ◌∙◌}
use Rattle.fol_theory.specs.Syntax.{pred, equal, all, ex}
use Rattle.term_core.proofs.Variants.{meaning_Pred, meaning_Eq, meaning_All, meaning_Ex}
use Rattle.env_core.specs.Filled.{scope_of}
use Rattle.env_core.proofs.Filling.{filled_Pred, filled_Eq, filled_All, filled_Ex}
use Rattle.env_core.proofs.head.+fill.Goals as goal

pub fill-returns-in_ok-copy-in-Pred : goal.fill-returns-in_ok-copy-in-Pred
fill-returns-in_ok-copy-in-Pred t c =
    meaning_Pred c.in_ok-copy-in-Pred.field-0 c.in_ok-made-in-Pred.made
    ∙ (λ i. pred (c.in_ok-copy-in-Pred.ensures i) (c.in_ok-made-in-Pred.ensures i))
    ∙ sym (filled_Pred (scope_of c.args.frames.now) c.args.binders c.args.a.now c.in-Pred.p c.in-Pred.ts c.as_slice.result.now c.in-Pred.is
    c.as_slice.ensures.value)

pub fill-returns-in_ok-copy-in-Eq : goal.fill-returns-in_ok-copy-in-Eq
fill-returns-in_ok-copy-in-Eq t c =
    meaning_Eq c.in_ok-copy-in-Eq.field-0 c.in_ok-first-in-Eq.first c.in_ok-second-in-Eq.second
    ∙ (λ i. equal (c.in_ok-copy-in-Eq.ensures i) (c.in_ok-first-in-Eq.ensures i) (c.in_ok-second-in-Eq.ensures i))
    ∙ sym (filled_Eq (scope_of c.args.frames.now) c.args.binders c.args.a.now c.in-Eq.s c.in-Eq.t c.in-Eq.u c.in-Eq.is)

pub fill-returns-in_ok-copy-in-All-2 : goal.fill-returns-in_ok-copy-in-All-2
fill-returns-in_ok-copy-in-All-2 t c =
    meaning_All c.in_ok-copy-in-All.field-0 c.in_ok-copy-in-All-2.field-0 c.in_ok-inner-in-All.inner
    ∙ (λ i. all (c.in_ok-copy-in-All.ensures i) (c.in_ok-copy-in-All-2.ensures i) (c.in_ok-inner-in-All.ensures i))
    ∙ sym (filled_All (scope_of c.args.frames.now) c.args.binders c.args.a.now c.in-All.s c.in-All.x c.in-All.b c.in-All.is)

pub fill-returns-in_ok-copy-in-Ex-2 : goal.fill-returns-in_ok-copy-in-Ex-2
fill-returns-in_ok-copy-in-Ex-2 t c =
    meaning_Ex c.in_ok-copy-in-Ex.field-0 c.in_ok-copy-in-Ex-2.field-0 c.in_ok-inner-in-Ex.inner
    ∙ (λ i. ex (c.in_ok-copy-in-Ex.ensures i) (c.in_ok-copy-in-Ex-2.ensures i) (c.in_ok-inner-in-Ex.ensures i))
    ∙ sym (filled_Ex (scope_of c.args.frames.now) c.args.binders c.args.a.now c.in-Ex.s c.in-Ex.x c.in-Ex.b c.in-Ex.is)
