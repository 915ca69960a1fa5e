use Rattle.std.proofs.Common.{ap, length, ◌∙◌}
use Rattle.fol_theory.specs.Printing.{unnamed}
use Rattle.term_core.specs.Formula.{meaning}
use Rattle.term_core.proofs.Variants.{unnamed_Pred, unnamed_Eq, unnamed_And, unnamed_Or, unnamed_Imp, unnamed_All, unnamed_Ex}
use Rattle.term_core.proofs.Shapes.{kind, is_pred, is_eq, is_and, is_or, is_imp, is_all, is_ex}
use Rattle.match_core.specs.Tables.{table}
use Rattle.match_core.proofs.Patterns.{variants_differ}
use Rattle.match_core.proofs.matching.+match_formula.Goals as goal

pub match_formula-returns-in_default-3 : goal.match_formula-returns-in_default-3
match_formula-returns-in_default-3 t c =
    variants_differ (length c.args.found.now) c.args.binders is_pred c.args.pattern.now c.args.target.now (table c.args.found.now)
    (ap (λ z. kind (unnamed (meaning z))) c.in_default.is-0 ∙ ap kind (unnamed_Pred _ _))
    (λ s. c.in_default.not-Pred-1 s.0 s.1 s.2)

pub match_formula-returns-in_default-4 : goal.match_formula-returns-in_default-4
match_formula-returns-in_default-4 t c =
    variants_differ (length c.args.found.now) c.args.binders is_eq c.args.pattern.now c.args.target.now (table c.args.found.now)
    (ap (λ z. kind (unnamed (meaning z))) c.in_default.is-0 ∙ ap kind (unnamed_Eq _ _ _))
    (λ s. c.in_default.not-Eq-1 s.0 s.1 s.2 s.3)

pub match_formula-returns-in_default-5 : goal.match_formula-returns-in_default-5
match_formula-returns-in_default-5 t c =
    variants_differ (length c.args.found.now) c.args.binders is_and c.args.pattern.now c.args.target.now (table c.args.found.now)
    (ap (λ z. kind (unnamed (meaning z))) c.in_default.is-0 ∙ ap kind (unnamed_And _ _))
    (λ s. c.in_default.not-And-1 s.0 s.1 s.2)

pub match_formula-returns-in_default-6 : goal.match_formula-returns-in_default-6
match_formula-returns-in_default-6 t c =
    variants_differ (length c.args.found.now) c.args.binders is_or c.args.pattern.now c.args.target.now (table c.args.found.now)
    (ap (λ z. kind (unnamed (meaning z))) c.in_default.is-0 ∙ ap kind (unnamed_Or _ _))
    (λ s. c.in_default.not-Or-1 s.0 s.1 s.2)

pub match_formula-returns-in_default-7 : goal.match_formula-returns-in_default-7
match_formula-returns-in_default-7 t c =
    variants_differ (length c.args.found.now) c.args.binders is_imp c.args.pattern.now c.args.target.now (table c.args.found.now)
    (ap (λ z. kind (unnamed (meaning z))) c.in_default.is-0 ∙ ap kind (unnamed_Imp _ _))
    (λ s. c.in_default.not-Imp-1 s.0 s.1 s.2)

pub match_formula-returns-in_default-8 : goal.match_formula-returns-in_default-8
match_formula-returns-in_default-8 t c =
    variants_differ (length c.args.found.now) c.args.binders is_all c.args.pattern.now c.args.target.now (table c.args.found.now)
    (ap (λ z. kind (unnamed (meaning z))) c.in_default.is-0 ∙ ap kind (unnamed_All _ _ _))
    (λ s. c.in_default.not-All-1 s.0 s.1 s.2 s.3)

pub match_formula-returns-in_default-9 : goal.match_formula-returns-in_default-9
match_formula-returns-in_default-9 t c =
    variants_differ (length c.args.found.now) c.args.binders is_ex c.args.pattern.now c.args.target.now (table c.args.found.now)
    (ap (λ z. kind (unnamed (meaning z))) c.in_default.is-0 ∙ ap kind (unnamed_Ex _ _ _))
    (λ s. c.in_default.not-Ex-1 s.0 s.1 s.2 s.3)
