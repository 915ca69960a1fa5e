use Rattle.std.proofs.Common.{ap, ◌∙◌, sym, arith}
use Rattle.std.specs.Arc.{arc_value}
use Rattle.fol_theory.specs.Syntax.{pred, truth, falsity}
use Rattle.fol_theory.specs.Printing.{unnamed}
use Rattle.term_core.specs.Term.{list_meaning}
use Rattle.term_core.specs.Formula.{meaning}
use Rattle.term_core.proofs.Variants.{meaning_True, meaning_False, meaning_Pred, meaning_Eq, meaning_And, meaning_Or, meaning_Imp}
use Rattle.term_core.proofs.Variants.{meaning_All, meaning_Ex, unnamed_Pred, unnamed_Eq, unnamed_And, unnamed_Or, unnamed_Imp}
use Rattle.term_core.proofs.Variants.{unnamed_All, unnamed_Ex}
use Rattle.term_core.proofs.Shapes.{kind, is_true, is_false, is_pred, is_eq, is_and, is_or, is_imp, is_all, is_ex}
use Rattle.env_theory.proofs.Values.{formula_truth, formula_falsity}
use Rattle.conv_core.proofs.Splits.{tops_differ, constants_split, predicates_fail, predicates_split, equations_fail, equations_split}
use Rattle.conv_core.proofs.Splits.{unlike, both_split, either_split, implies_split, all_fail, ex_fail, all_split, ex_split}
use Rattle.conv_core.proofs.Compares.{if_ok}
use Rattle.conv_core.proofs.parts.split_tops.Goals as goal

pub returns-in_default : goal.returns-in_default
returns-in_default c =
    tops_differ c.args.frames.now.items c.args.c c.args.d c.args.a.now c.args.b.now c.args.stack.now.items c.args.stack.now.items is_true
    (ap (λ z. kind (unnamed (meaning z))) c.in_default.is-0 ∙ ap (λ z. kind (unnamed z)) meaning_True) (λ s. c.in_default.not-True-1 s)

pub returns-in_default-2 : goal.returns-in_default-2
returns-in_default-2 c =
    tops_differ c.args.frames.now.items c.args.c c.args.d c.args.a.now c.args.b.now c.args.stack.now.items c.args.stack.now.items is_false
    (ap (λ z. kind (unnamed (meaning z))) c.in_default.is-0 ∙ ap (λ z. kind (unnamed z)) meaning_False) (λ s. c.in_default.not-False-1 s)

pub returns-in_default-3 : goal.returns-in_default-3
returns-in_default-3 c =
    tops_differ c.args.frames.now.items c.args.c c.args.d c.args.a.now c.args.b.now c.args.stack.now.items c.args.stack.now.items is_pred
    (ap (λ z. kind (unnamed (meaning z))) c.in_default.is-0 ∙ ap kind (unnamed_Pred _ _)) (λ s. c.in_default.not-Pred-1 s.0 s.1 s.2)

pub returns-in_default-4 : goal.returns-in_default-4
returns-in_default-4 c =
    tops_differ c.args.frames.now.items c.args.c c.args.d c.args.a.now c.args.b.now c.args.stack.now.items c.args.stack.now.items is_eq
    (ap (λ z. kind (unnamed (meaning z))) c.in_default.is-0 ∙ ap kind (unnamed_Eq _ _ _)) (λ s. c.in_default.not-Eq-1 s.0 s.1 s.2 s.3)

pub returns-in_default-5 : goal.returns-in_default-5
returns-in_default-5 c =
    tops_differ c.args.frames.now.items c.args.c c.args.d c.args.a.now c.args.b.now c.args.stack.now.items c.args.stack.now.items is_and
    (ap (λ z. kind (unnamed (meaning z))) c.in_default.is-0 ∙ ap kind (unnamed_And _ _)) (λ s. c.in_default.not-And-1 s.0 s.1 s.2)

pub returns-in_default-6 : goal.returns-in_default-6
returns-in_default-6 c =
    tops_differ c.args.frames.now.items c.args.c c.args.d c.args.a.now c.args.b.now c.args.stack.now.items c.args.stack.now.items is_or
    (ap (λ z. kind (unnamed (meaning z))) c.in_default.is-0 ∙ ap kind (unnamed_Or _ _)) (λ s. c.in_default.not-Or-1 s.0 s.1 s.2)

pub returns-in_default-7 : goal.returns-in_default-7
returns-in_default-7 c =
    tops_differ c.args.frames.now.items c.args.c c.args.d c.args.a.now c.args.b.now c.args.stack.now.items c.args.stack.now.items is_imp
    (ap (λ z. kind (unnamed (meaning z))) c.in_default.is-0 ∙ ap kind (unnamed_Imp _ _)) (λ s. c.in_default.not-Imp-1 s.0 s.1 s.2)

pub returns-in_default-8 : goal.returns-in_default-8
returns-in_default-8 c =
    tops_differ c.args.frames.now.items c.args.c c.args.d c.args.a.now c.args.b.now c.args.stack.now.items c.args.stack.now.items is_all
    (ap (λ z. kind (unnamed (meaning z))) c.in_default.is-0 ∙ ap kind (unnamed_All _ _ _)) (λ s. c.in_default.not-All-1 s.0 s.1 s.2 s.3)

pub returns-in_default-9 : goal.returns-in_default-9
returns-in_default-9 c =
    tops_differ c.args.frames.now.items c.args.c c.args.d c.args.a.now c.args.b.now c.args.stack.now.items c.args.stack.now.items is_ex
    (ap (λ z. kind (unnamed (meaning z))) c.in_default.is-0 ∙ ap kind (unnamed_Ex _ _ _)) (λ s. c.in_default.not-Ex-1 s.0 s.1 s.2 s.3)

pub returns-then-not-same : goal.returns-then-not-same
returns-then-not-same c =
    predicates_fail c.args.frames.now.items c.args.c c.args.d (meaning c.args.a.now) (meaning c.args.b.now) c.args.stack.now.items
    c.args.stack.now.items c.in-Pred-Pred.p c.in-Pred-Pred.q _ _ (ap meaning c.in-Pred-Pred.is-0 ∙ meaning_Pred _ _)
    (ap meaning c.in-Pred-Pred.is-1 ∙ meaning_Pred _ _) (unlike c.same.result c.if-not-same.true c.same.ensures)

pub returns-then-not-same-2 : goal.returns-then-not-same-2
returns-then-not-same-2 c =
    equations_fail c.args.frames.now.items c.args.c c.args.d (meaning c.args.a.now) (meaning c.args.b.now) c.args.stack.now.items
    c.args.stack.now.items c.in-Eq-Eq.s c.in-Eq-Eq.r _ _ _ _ (ap meaning c.in-Eq-Eq.is-0 ∙ meaning_Eq _ _ _)
    (ap meaning c.in-Eq-Eq.is-1 ∙ meaning_Eq _ _ _) (unlike c.same-in-Eq-Eq.result c.if-not-same-2.true c.same-in-Eq-Eq.ensures)

pub returns-then-not-same-3 : goal.returns-then-not-same-3
returns-then-not-same-3 c =
    all_fail c.args.frames.now.items c.args.c c.args.d (meaning c.args.a.now) (meaning c.args.b.now) c.args.stack.now.items
    c.args.stack.now.items c.in-All-All.s c.in-All-All.r _ _ _ _ (ap meaning c.in-All-All.is-0 ∙ meaning_All _ _ _)
    (ap meaning c.in-All-All.is-1 ∙ meaning_All _ _ _)
    (unlike c.same-in-All-All.result c.if-not-same-3.true c.same-in-All-All.ensures)

pub returns-then-not-same-4 : goal.returns-then-not-same-4
returns-then-not-same-4 c =
    ex_fail c.args.frames.now.items c.args.c c.args.d (meaning c.args.a.now) (meaning c.args.b.now) c.args.stack.now.items
    c.args.stack.now.items c.in-Ex-Ex.s c.in-Ex-Ex.r _ _ _ _ (ap meaning c.in-Ex-Ex.is-0 ∙ meaning_Ex _ _ _)
    (ap meaning c.in-Ex-Ex.is-1 ∙ meaning_Ex _ _ _) (unlike c.same-in-Ex-Ex.result c.if-not-same-4.true c.same-in-Ex-Ex.ensures)

pub returns-in-True-True : goal.returns-in-True-True
returns-in-True-True c =
    constants_split c.args.frames.now.items c.args.c c.args.d (meaning c.args.a.now) (meaning c.args.b.now) c.args.stack.now.items truth
    (ap meaning c.in-True-True.is-0 ∙ meaning_True) (ap meaning c.in-True-True.is-1 ∙ meaning_True) formula_truth

pub returns-in-False-False : goal.returns-in-False-False
returns-in-False-False c =
    constants_split c.args.frames.now.items c.args.c c.args.d (meaning c.args.a.now) (meaning c.args.b.now) c.args.stack.now.items
    falsity (ap meaning c.in-False-False.is-0 ∙ meaning_False) (ap meaning c.in-False-False.is-1 ∙ meaning_False) formula_falsity

pub returns-else-not-same : goal.returns-else-not-same
returns-else-not-same c =
    if_ok c.push_sides.result (predicates_split c.args.frames.now.items c.args.c c.args.d (meaning c.args.a.now) (meaning c.args.b.now)
    c.args.stack.now.items c.push_sides.new.stack.items c.in-Pred-Pred.p c.in-Pred-Pred.q
    c.as_slice.result.now c.as_slice-in-Pred-Pred.result.now
    (ap meaning c.in-Pred-Pred.is-0 ∙ meaning_Pred _ _ ∙ ap (λ l. pred c.in-Pred-Pred.p (list_meaning l)) (sym c.as_slice.ensures.value))
    (ap meaning c.in-Pred-Pred.is-1 ∙ meaning_Pred _ _ ∙ ap (λ l. pred c.in-Pred-Pred.q (list_meaning l))
    (sym c.as_slice-in-Pred-Pred.ensures.value)) (c.same.ensures.0 c.if-not-same.false)
    (omega (arith, c.ranges.c.fits), omega (arith, c.ranges.d.fits))) c.push_sides.ensures

pub returns-in_ok-push_equation-in-Eq-Eq : goal.returns-in_ok-push_equation-in-Eq-Eq
returns-in_ok-push_equation-in-Eq-Eq c =
    equations_split c.args.frames.now.items c.args.c c.args.d (meaning c.args.a.now) (meaning c.args.b.now) c.args.stack.now.items
    c.push_equation.new.stack.items c.in-Eq-Eq.s c.in-Eq-Eq.r c.in-Eq-Eq.t c.in-Eq-Eq.u c.in-Eq-Eq.v c.in-Eq-Eq.w
    (ap meaning c.in-Eq-Eq.is-0 ∙ meaning_Eq _ _ _) (ap meaning c.in-Eq-Eq.is-1 ∙ meaning_Eq _ _ _)
    (c.same-in-Eq-Eq.ensures.0 c.if-not-same-2.false) (omega (arith, c.ranges.c.fits), omega (arith, c.ranges.d.fits))
    c.in_ok-push_equation-in-Eq-Eq.ensures

pub returns-in_ok-push_parts-in-And-And : goal.returns-in_ok-push_parts-in-And-And
returns-in_ok-push_parts-in-And-And c =
    both_split c.args.frames.now.items c.args.c c.args.d (meaning c.args.a.now) (meaning c.args.b.now) c.args.stack.now.items
    c.push_parts.new.stack.items (arc_value c.in-And-And.e) (arc_value c.in-And-And.f) (arc_value c.in-And-And.g)
    (arc_value c.in-And-And.h) (ap meaning c.in-And-And.is-0 ∙ meaning_And _ _) (ap meaning c.in-And-And.is-1 ∙ meaning_And _ _)
    c.in_ok-push_parts-in-And-And.ensures

pub returns-in_ok-push_parts-in-Or-Or : goal.returns-in_ok-push_parts-in-Or-Or
returns-in_ok-push_parts-in-Or-Or c =
    either_split c.args.frames.now.items c.args.c c.args.d (meaning c.args.a.now) (meaning c.args.b.now) c.args.stack.now.items
    c.push_parts-in-Or-Or.new.stack.items (arc_value c.in-Or-Or.e) (arc_value c.in-Or-Or.f) (arc_value c.in-Or-Or.g)
    (arc_value c.in-Or-Or.h) (ap meaning c.in-Or-Or.is-0 ∙ meaning_Or _ _) (ap meaning c.in-Or-Or.is-1 ∙ meaning_Or _ _)
    c.in_ok-push_parts-in-Or-Or.ensures

pub returns-in_ok-push_parts-in-Imp-Imp : goal.returns-in_ok-push_parts-in-Imp-Imp
returns-in_ok-push_parts-in-Imp-Imp c =
    implies_split c.args.frames.now.items c.args.c c.args.d (meaning c.args.a.now) (meaning c.args.b.now) c.args.stack.now.items
    c.push_parts-in-Imp-Imp.new.stack.items (arc_value c.in-Imp-Imp.e) (arc_value c.in-Imp-Imp.f) (arc_value c.in-Imp-Imp.g)
    (arc_value c.in-Imp-Imp.h) (ap meaning c.in-Imp-Imp.is-0 ∙ meaning_Imp _ _) (ap meaning c.in-Imp-Imp.is-1 ∙ meaning_Imp _ _)
    c.in_ok-push_parts-in-Imp-Imp.ensures

pub returns-in_ok-push_below-in-All-All : goal.returns-in_ok-push_below-in-All-All
returns-in_ok-push_below-in-All-All c =
    all_split c.args.frames.now.items c.args.c c.args.d (meaning c.args.a.now) (meaning c.args.b.now) c.args.stack.now.items
    c.push_below.new.stack.items c.in-All-All.s c.in-All-All.r _ _ (arc_value c.in-All-All.e) (arc_value c.in-All-All.g)
    (c.same-in-All-All.ensures.0 c.if-not-same-3.false) c.in_ok-push_below-in-All-All.ensures.stack
    (ap meaning c.in-All-All.is-0 ∙ meaning_All _ _ _) (ap meaning c.in-All-All.is-1 ∙ meaning_All _ _ _)
    c.push_below.new.frames.items c.in_ok-push_below-in-All-All.ensures.frames

pub returns-in_ok-push_below-in-Ex-Ex : goal.returns-in_ok-push_below-in-Ex-Ex
returns-in_ok-push_below-in-Ex-Ex c =
    ex_split c.args.frames.now.items c.args.c c.args.d (meaning c.args.a.now) (meaning c.args.b.now) c.args.stack.now.items
    c.push_below-in-Ex-Ex.new.stack.items c.in-Ex-Ex.s c.in-Ex-Ex.r _ _ (arc_value c.in-Ex-Ex.e) (arc_value c.in-Ex-Ex.g)
    (c.same-in-Ex-Ex.ensures.0 c.if-not-same-4.false) c.in_ok-push_below-in-Ex-Ex.ensures.stack
    (ap meaning c.in-Ex-Ex.is-0 ∙ meaning_Ex _ _ _) (ap meaning c.in-Ex-Ex.is-1 ∙ meaning_Ex _ _ _)
    c.push_below-in-Ex-Ex.new.frames.items c.in_ok-push_below-in-Ex-Ex.ensures.frames
