use Rattle.std.proofs.Common.{[], ◌∷◌, ◌++◌, ap, ◌∙◌}
use Rattle.std.specs.Arc.{arc_value}
use Rattle.tactic_theory.specs.Strips.{is_equation}
use Rattle.term_core.specs.Formula.{meaning}
use Rattle.term_core.proofs.Variants.{meaning_All, meaning_Imp}
use Rattle.strip_core.specs.Drafts.{drafted}
use Rattle.strip_core.proofs.Premises.{opened, supposed, other}
use Rattle.strip_core.proofs.draft.Draft.strip.Goals as goal

pub returns-in_ok-self-in-All-clause-turns : goal.returns-in_ok-self-in-All-clause-turns
returns-in_ok-self-in-All-clause-turns c =
    let d = c.args.self.now in
    let is = ap meaning c.in-All.is ∙ meaning_All c.in-All.sort c.in-All.field-1 c.in-All.body in (
      opened d.sorts.items d.premises.items (meaning d.rest) (meaning (arc_value c.in-All.body)) (meaning c.in_ok-self-in-All.field-0)
          (meaning c.args.head.now) (c.in_ok-self-in-All.ensures ∙ ap meaning c.deref.ensures) c.in-All.sort c.in-All.field-1
          c.push.new.self.items c.requires is
          (c.in_ok-push-in-All.ensures.items ∙ ap (λ n. d.sorts.items ++ n ∷ []) c.in_ok-copy-in-All.ensures),
      ap is_equation is,
    )

pub returns-in_ok-self-in-Imp-clause-turns : goal.returns-in_ok-self-in-Imp-clause-turns
returns-in_ok-self-in-Imp-clause-turns c =
    let d = c.args.self.now in
    let is = ap meaning c.in-Imp.is ∙ meaning_Imp c.in-Imp.premise c.in-Imp.conclusion in (
      supposed d.sorts.items d.premises.items (meaning d.rest) (meaning (arc_value c.in-Imp.conclusion)) (meaning c.in_ok-self-in-Imp.field-0)
          (meaning c.args.head.now) (c.in_ok-self-in-Imp.ensures ∙ ap meaning c.deref-in-Imp-2.ensures)
          (record { formula = c.in_ok-copy-in-Imp.field-0; opened = c.open-opened.result })
          (meaning (arc_value c.in-Imp.premise)) c.push-in-Imp.new.self.items is c.open-opened.ensures
          (c.in_ok-copy-in-Imp.ensures ∙ ap meaning c.deref-in-Imp.ensures) c.in_ok-push-in-Imp.ensures.items,
      ap is_equation is,
    )

pub returns-in_default-clause-turns : goal.returns-in_default-clause-turns
returns-in_default-clause-turns c =
    other c.args.head.now (λ s x a. c.in_default.not-All s x a) (λ a b. c.in_default.not-Imp a b) (λ s t u. c.in_default.not-Eq s t u)
    (drafted c.args.self.now)
