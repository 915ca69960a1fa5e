use Rattle.std.proofs.Common.{◌∙◌, ap}
use Rattle.fol_theory.specs.Printing.{unnamed}
use Rattle.term_core.specs.Formula.{meaning}
use Rattle.term_core.proofs.Variants.{unnamed_Pred, unnamed_Eq, unnamed_And, unnamed_Or, unnamed_Imp, unnamed_All, unnamed_Ex}
use Rattle.term_core.proofs.Shapes.{made_alike, kind, is_pred, is_eq, is_and, is_or, is_imp, is_all, is_ex}
use Rattle.term_core.proofs.formula.Formula.+same.Goals as goal

pub returns-in_default-3 : goal.returns-in_default-3
returns-in_default-3 t c = (
  λ h. cc,
  λ e. let s =
      made_alike is_pred c.args.self.now c.args.other.now (ap (λ z. kind (unnamed (meaning z))) c.in_default.is-0
      ∙ ap kind (unnamed_Pred _ _)) e in absurd (c.in_default.not-Pred-1 s.0 s.1 s.2),
)

pub returns-in_default-4 : goal.returns-in_default-4
returns-in_default-4 t c = (
  λ h. cc,
  λ e. let s =
      made_alike is_eq c.args.self.now c.args.other.now (ap (λ z. kind (unnamed (meaning z))) c.in_default.is-0
      ∙ ap kind (unnamed_Eq _ _ _)) e in absurd (c.in_default.not-Eq-1 s.0 s.1 s.2 s.3),
)

pub returns-in_default-5 : goal.returns-in_default-5
returns-in_default-5 t c = (
  λ h. cc,
  λ e. let s =
      made_alike is_and c.args.self.now c.args.other.now (ap (λ z. kind (unnamed (meaning z))) c.in_default.is-0
      ∙ ap kind (unnamed_And _ _)) e in absurd (c.in_default.not-And-1 s.0 s.1 s.2),
)

pub returns-in_default-6 : goal.returns-in_default-6
returns-in_default-6 t c = (
  λ h. cc,
  λ e. let s =
      made_alike is_or c.args.self.now c.args.other.now (ap (λ z. kind (unnamed (meaning z))) c.in_default.is-0
      ∙ ap kind (unnamed_Or _ _)) e in absurd (c.in_default.not-Or-1 s.0 s.1 s.2),
)

pub returns-in_default-7 : goal.returns-in_default-7
returns-in_default-7 t c = (
  λ h. cc,
  λ e. let s =
      made_alike is_imp c.args.self.now c.args.other.now (ap (λ z. kind (unnamed (meaning z))) c.in_default.is-0
      ∙ ap kind (unnamed_Imp _ _)) e in absurd (c.in_default.not-Imp-1 s.0 s.1 s.2),
)

pub returns-in_default-8 : goal.returns-in_default-8
returns-in_default-8 t c = (
  λ h. cc,
  λ e. let s =
      made_alike is_all c.args.self.now c.args.other.now (ap (λ z. kind (unnamed (meaning z))) c.in_default.is-0
      ∙ ap kind (unnamed_All _ _ _)) e in absurd (c.in_default.not-All-1 s.0 s.1 s.2 s.3),
)

pub returns-in_default-9 : goal.returns-in_default-9
returns-in_default-9 t c = (
  λ h. cc,
  λ e. let s =
      made_alike is_ex c.args.self.now c.args.other.now (ap (λ z. kind (unnamed (meaning z))) c.in_default.is-0
      ∙ ap kind (unnamed_Ex _ _ _)) e in absurd (c.in_default.not-Ex-1 s.0 s.1 s.2 s.3),
)
