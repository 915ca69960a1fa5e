use Rattle.std.specs.Arc.{arc_value, arc_slice_items}
use Rattle.std.proofs.Common.{◌≡◌, ◌+◌, ◌<◌, [], ◌∷◌, ◌++◌, length, sym, ap, subst, ◌∙◌, arith, rules}
use Rattle.fol_theory.specs.Syntax.{pred, equal, both, either, implies, all, ex}
use Rattle.term_core.specs.Formula.{meaning}
use Rattle.term_core.specs.Term as term
use Rattle.term_core.proofs.Variants.{meaning_True, meaning_False, meaning_Pred, meaning_Eq, meaning_And, meaning_Or, meaning_Imp}
use Rattle.term_core.proofs.Variants.{meaning_All, meaning_Ex}
use Rattle.env_theory.specs.Scopes.{under, value, formula_value}
use Rattle.env_theory.specs.Machine.{formula_left}
use Rattle.env_theory.proofs.Values.{formula_truth, formula_falsity}
use Rattle.env_core.specs.Meaning.{declarations}
use Rattle.conv_core.specs.Frames.{scope_of}
use Rattle.conv_core.specs.Heads.{Standing}
use Rattle.conv_core.specs.Formulas.{StandingFormula}
use Rattle.conv_core.specs.declared.frame.Frame.TheVariants.{Under}
use Rattle.conv_core.proofs.Tops.{predicate_part, equal_parts, both_parts, either_parts, implies_parts, all_part, ex_part, below_step}
use Rattle.conv_core.proofs.formula.+formula.Goals as goal

pub read_below-read_formula-requires : goal.read_below-read_formula-requires
read_below-read_formula-requires t c =
    let fs = c.args.frames.now.items in
    let w = below_step (declarations c.args.env.now) fs c.args.scope (meaning (arc_value c.args.a.now)) c.requires.standing in
    let k = c.in_ok-push.ensures.items in
    let n : c.len-kept.result ≡ length fs = search rules in
    let d : formula_left (declarations c.args.env.now) (scope_of c.push.new.self.items (c.len-kept.result + 1))
    (meaning c.deref.result.now) ≡ formula_left (declarations c.args.env.now) (under (scope_of fs c.args.scope)) (meaning
    (arc_value c.args.a.now)) =
    (λ i. formula_left (declarations c.args.env.now) (scope_of (k i) (n i + 1)) (meaning (c.deref.ensures i)))
    ∙ ap (λ s. formula_left (declarations c.args.env.now) s (meaning (arc_value c.args.a.now))) w.1 in
    let s : StandingFormula (declarations c.args.env.now) c.push.new.self.items (c.len-kept.result + 1) (meaning
    (arc_value c.args.a.now)) = subst (λ gs. StandingFormula (declarations c.args.env.now) gs (c.len-kept.result + 1) (meaning
    (arc_value c.args.a.now))) (sym k) (subst (λ m. StandingFormula (declarations c.args.env.now) (fs ++
    (Under c.args.scope ∷ [])) (m + 1) (meaning (arc_value c.args.a.now))) (sym n) w.0) in (
      omega (arith, c.decreases, d),
      (
        c.requires.environment,
        subst (λ a. StandingFormula
            (declarations c.args.env.now) c.push.new.self.items (c.len-kept.result + 1) (meaning a)) (sym c.deref.ensures) s,
      ),
    )

pub read_formula-read_top-requires : goal.read_formula-read_top-requires
read_formula-read_top-requires t c =
    let h = c.in_ok-place.ensures.head in
    (omega (arith, c.decreases, h.1), (c.requires.environment, (h.2, h.3)))

pub read_top-read_terms-requires-clause-standing : goal.read_top-read_terms-requires-clause-standing
read_top-read_terms-requires-clause-standing t c =
    (predicate_part (declarations c.args.env.now) c.requires.environment c.args.frames.now.items c.args.scope
    (meaning c.args.a.now) c.in-Pred.p (term.list_meaning c.as_slice.result.now)
    (ap meaning c.in-Pred.is ∙ meaning_Pred c.in-Pred.p c.in-Pred.ts
    ∙ ap (λ l. pred c.in-Pred.p (term.list_meaning l)) (sym c.as_slice.ensures.value)) c.requires.standing c.requires.rigid (omega
    (arith, c.ranges.scope.fits))).0

pub read_top-read_term-requires-clause-standing : goal.read_top-read_term-requires-clause-standing
read_top-read_term-requires-clause-standing t c =
    (equal_parts (declarations c.args.env.now) c.args.frames.now.items c.args.scope (meaning c.args.a.now) c.in-Eq.s
    (term.meaning c.in-Eq.t) (term.meaning c.in-Eq.u) (ap meaning c.in-Eq.is
    ∙ meaning_Eq c.in-Eq.s c.in-Eq.t c.in-Eq.u) c.requires.standing (omega (arith, c.ranges.scope.fits))).0

pub read_top-read_term-requires-in-Eq-clause-standing : goal.read_top-read_term-requires-in-Eq-clause-standing
read_top-read_term-requires-in-Eq-clause-standing t c =
    subst (λ gs. Standing (declarations c.args.env.now) gs c.args.scope 0 (term.meaning c.in-Eq.u))
    (sym c.in_ok-first-in-Eq.ensures.frames) (equal_parts (declarations c.args.env.now) c.args.frames.now.items c.args.scope
    (meaning c.args.a.now) c.in-Eq.s (term.meaning c.in-Eq.t) (term.meaning c.in-Eq.u) (ap meaning c.in-Eq.is
    ∙ meaning_Eq c.in-Eq.s c.in-Eq.t c.in-Eq.u) c.requires.standing (omega (arith, c.ranges.scope.fits))).1

pub read_top-read_boxed-requires : goal.read_top-read_boxed-requires
read_top-read_boxed-requires t c =
    let w = both_parts (declarations c.args.env.now) c.args.frames.now.items c.args.scope (meaning c.args.a.now) (meaning
    (arc_value c.in-And.b)) (meaning (arc_value c.in-And.d)) (ap meaning c.in-And.is
    ∙ meaning_And c.in-And.b c.in-And.d) c.requires.standing in
    (omega (arith, c.decreases, w.3), (c.requires.environment, w.0))

pub read_top-read_boxed-requires-in-And : goal.read_top-read_boxed-requires-in-And
read_top-read_boxed-requires-in-And t c =
    let w = both_parts (declarations c.args.env.now) c.args.frames.now.items c.args.scope (meaning c.args.a.now) (meaning
    (arc_value c.in-And.b)) (meaning (arc_value c.in-And.d)) (ap meaning c.in-And.is
    ∙ meaning_And c.in-And.b c.in-And.d) c.requires.standing in
    let k = sym c.in_ok-first-in-And.ensures.frames in
    let l = subst (λ gs. formula_left (declarations c.args.env.now) (scope_of gs c.args.scope) (meaning
    (arc_value c.in-And.d)) < formula_left (declarations c.args.env.now) (scope_of c.args.frames.now.items c.args.scope)
    (meaning c.args.a.now)) k w.4 in (
      omega (arith, c.decreases, l),
      (
        c.requires.environment,
        subst (λ gs. StandingFormula
            (declarations c.args.env.now) gs c.args.scope (meaning (arc_value c.in-And.d))) k w.1,
      ),
    )

pub read_top-read_boxed-requires-in-Or : goal.read_top-read_boxed-requires-in-Or
read_top-read_boxed-requires-in-Or t c =
    let w = either_parts (declarations c.args.env.now) c.args.frames.now.items c.args.scope (meaning c.args.a.now) (meaning
    (arc_value c.in-Or.b)) (meaning (arc_value c.in-Or.d)) (ap meaning c.in-Or.is
    ∙ meaning_Or c.in-Or.b c.in-Or.d) c.requires.standing in
    (omega (arith, c.decreases, w.3), (c.requires.environment, w.0))

pub read_top-read_boxed-requires-in-Or-2 : goal.read_top-read_boxed-requires-in-Or-2
read_top-read_boxed-requires-in-Or-2 t c =
    let w = either_parts (declarations c.args.env.now) c.args.frames.now.items c.args.scope (meaning c.args.a.now) (meaning
    (arc_value c.in-Or.b)) (meaning (arc_value c.in-Or.d)) (ap meaning c.in-Or.is
    ∙ meaning_Or c.in-Or.b c.in-Or.d) c.requires.standing in
    let k = sym c.in_ok-first-in-Or.ensures.frames in
    let l = subst (λ gs. formula_left (declarations c.args.env.now) (scope_of gs c.args.scope) (meaning
    (arc_value c.in-Or.d)) < formula_left (declarations c.args.env.now) (scope_of c.args.frames.now.items c.args.scope)
    (meaning c.args.a.now)) k w.4 in (
      omega (arith, c.decreases, l),
      (
        c.requires.environment,
        subst (λ gs. StandingFormula
            (declarations c.args.env.now) gs c.args.scope (meaning (arc_value c.in-Or.d))) k w.1,
      ),
    )

pub read_top-read_boxed-requires-in-Imp : goal.read_top-read_boxed-requires-in-Imp
read_top-read_boxed-requires-in-Imp t c =
    let w = implies_parts (declarations c.args.env.now) c.args.frames.now.items c.args.scope (meaning c.args.a.now) (meaning
    (arc_value c.in-Imp.b)) (meaning (arc_value c.in-Imp.d)) (ap meaning c.in-Imp.is
    ∙ meaning_Imp c.in-Imp.b c.in-Imp.d) c.requires.standing in
    (omega (arith, c.decreases, w.3), (c.requires.environment, w.0))

pub read_top-read_boxed-requires-in-Imp-2 : goal.read_top-read_boxed-requires-in-Imp-2
read_top-read_boxed-requires-in-Imp-2 t c =
    let w = implies_parts (declarations c.args.env.now) c.args.frames.now.items c.args.scope (meaning c.args.a.now) (meaning
    (arc_value c.in-Imp.b)) (meaning (arc_value c.in-Imp.d)) (ap meaning c.in-Imp.is
    ∙ meaning_Imp c.in-Imp.b c.in-Imp.d) c.requires.standing in
    let k = sym c.in_ok-first-in-Imp.ensures.frames in
    let l = subst (λ gs. formula_left (declarations c.args.env.now) (scope_of gs c.args.scope) (meaning
    (arc_value c.in-Imp.d)) < formula_left (declarations c.args.env.now) (scope_of c.args.frames.now.items c.args.scope)
    (meaning c.args.a.now)) k w.4 in (
      omega (arith, c.decreases, l),
      (
        c.requires.environment,
        subst (λ gs. StandingFormula
            (declarations c.args.env.now) gs c.args.scope (meaning (arc_value c.in-Imp.d))) k w.1,
      ),
    )

pub read_top-read_below-requires : goal.read_top-read_below-requires
read_top-read_below-requires t c =
    let w = all_part (declarations c.args.env.now) c.args.frames.now.items c.args.scope (meaning c.args.a.now) c.in-All.s c.in-All.x
    (meaning (arc_value c.in-All.b)) (ap meaning c.in-All.is ∙ meaning_All c.in-All.s c.in-All.x c.in-All.b) c.requires.standing in
    (omega (arith, c.decreases, w.2), (c.requires.environment, w.0))

pub read_top-read_below-requires-in-Ex : goal.read_top-read_below-requires-in-Ex
read_top-read_below-requires-in-Ex t c =
    let w = ex_part (declarations c.args.env.now) c.args.frames.now.items c.args.scope (meaning c.args.a.now) c.in-Ex.s c.in-Ex.x
    (meaning (arc_value c.in-Ex.b)) (ap meaning c.in-Ex.is ∙ meaning_Ex c.in-Ex.s c.in-Ex.x c.in-Ex.b) c.requires.standing in
    (omega (arith, c.decreases, w.2), (c.requires.environment, w.0))

pub read_top-returns-in-True-clause-value : goal.read_top-returns-in-True-clause-value
read_top-returns-in-True-clause-value t c =
    meaning_True ∙ sym (formula_truth (declarations c.args.env.now) (scope_of c.args.frames.now.items c.args.scope))
    ∙ ap (formula_value (declarations c.args.env.now) (scope_of c.args.frames.now.items c.args.scope)) (sym
    (ap meaning c.in-True.is ∙ meaning_True))

pub read_top-returns-in-False-clause-value : goal.read_top-returns-in-False-clause-value
read_top-returns-in-False-clause-value t c =
    meaning_False ∙ sym (formula_falsity (declarations c.args.env.now) (scope_of c.args.frames.now.items c.args.scope))
    ∙ ap (formula_value (declarations c.args.env.now) (scope_of c.args.frames.now.items c.args.scope)) (sym
    (ap meaning c.in-False.is ∙ meaning_False))

pub read_below-returns-clause-value : goal.read_below-returns-clause-value
read_below-returns-clause-value t c =
    let fs = c.args.frames.now.items in
    let w = below_step (declarations c.args.env.now) fs c.args.scope (meaning (arc_value c.args.a.now)) c.requires.standing in
    let k = c.in_ok-push.ensures.items in
    let n : c.len-kept.result ≡ length fs = search rules in
    ap meaning c.in_ok-new.ensures.ok ∙ c.in_ok-made.ensures.value
    ∙ (λ i. formula_value (declarations c.args.env.now) (scope_of (k i) (n i + 1)) (meaning c.deref.result.now))
    ∙ ap (λ s. formula_value (declarations c.args.env.now) s (meaning c.deref.result.now)) w.1 ∙
    ap (λ a. formula_value (declarations c.args.env.now) (under (scope_of c.args.frames.now.items c.args.scope))
    (meaning a)) c.deref.ensures

pub read_top-returns-in_ok-copy-in-Pred-clause-value : goal.read_top-returns-in_ok-copy-in-Pred-clause-value
read_top-returns-in_ok-copy-in-Pred-clause-value t c =
    let w = predicate_part (declarations c.args.env.now) c.requires.environment c.args.frames.now.items c.args.scope
    (meaning c.args.a.now) c.in-Pred.p (term.list_meaning c.as_slice.result.now)
    (ap meaning c.in-Pred.is ∙ meaning_Pred c.in-Pred.p c.in-Pred.ts
    ∙ ap (λ l. pred c.in-Pred.p (term.list_meaning l)) (sym c.as_slice.ensures.value)) c.requires.standing c.requires.rigid (omega
    (arith, c.ranges.scope.fits)) in
    meaning_Pred c.in_ok-copy-in-Pred.field-0 c.in_ok-made-in-Pred.made
    ∙ ap (λ p. pred p (term.list_meaning (arc_slice_items c.in_ok-made-in-Pred.made))) c.in_ok-copy-in-Pred.ensures
    ∙ ap (pred c.in-Pred.p) c.in_ok-made-in-Pred.ensures.values ∙ sym w.1

pub read_top-returns-in_ok-copy-in-Eq-clause-value : goal.read_top-returns-in_ok-copy-in-Eq-clause-value
read_top-returns-in_ok-copy-in-Eq-clause-value t c =
    let w = equal_parts (declarations c.args.env.now) c.args.frames.now.items c.args.scope (meaning c.args.a.now) c.in-Eq.s
    (term.meaning c.in-Eq.t) (term.meaning c.in-Eq.u) (ap meaning c.in-Eq.is
    ∙ meaning_Eq c.in-Eq.s c.in-Eq.t c.in-Eq.u) c.requires.standing (omega (arith, c.ranges.scope.fits)) in
    let second = c.in_ok-second-in-Eq.ensures.value ∙ ap (λ gs. value (declarations c.args.env.now) (scope_of gs c.args.scope) 0
    (term.meaning c.in-Eq.u)) c.in_ok-first-in-Eq.ensures.frames in
    meaning_Eq c.in_ok-copy-in-Eq.field-0 c.in_ok-first-in-Eq.first c.in_ok-second-in-Eq.second
    ∙ ap (λ s. equal s (term.meaning c.in_ok-first-in-Eq.first)
    (term.meaning c.in_ok-second-in-Eq.second)) c.in_ok-copy-in-Eq.ensures ∙
    ap (λ x. equal c.in-Eq.s x (term.meaning c.in_ok-second-in-Eq.second)) c.in_ok-first-in-Eq.ensures.value
    ∙ ap (equal c.in-Eq.s (value (declarations c.args.env.now) (scope_of c.args.frames.now.items c.args.scope) 0
    (term.meaning c.in-Eq.t))) second ∙ sym w.2

pub read_top-returns-in_ok-second-in-And-clause-value : goal.read_top-returns-in_ok-second-in-And-clause-value
read_top-returns-in_ok-second-in-And-clause-value t c =
    let w = both_parts (declarations c.args.env.now) c.args.frames.now.items c.args.scope (meaning c.args.a.now) (meaning
    (arc_value c.in-And.b)) (meaning (arc_value c.in-And.d)) (ap meaning c.in-And.is
    ∙ meaning_And c.in-And.b c.in-And.d) c.requires.standing in
    let second = c.in_ok-second-in-And.ensures.value ∙ ap (λ gs. formula_value (declarations c.args.env.now)
    (scope_of gs c.args.scope) (meaning (arc_value c.in-And.d))) c.in_ok-first-in-And.ensures.frames in
    meaning_And c.in_ok-first-in-And.first c.in_ok-second-in-And.second
    ∙ ap (λ x. both x (meaning (arc_value c.in_ok-second-in-And.second))) c.in_ok-first-in-And.ensures.value
    ∙ ap (both (formula_value (declarations c.args.env.now) (scope_of c.args.frames.now.items c.args.scope) (meaning
    (arc_value c.in-And.b)))) second ∙ sym w.2

pub read_top-returns-in_ok-second-in-Or-clause-value : goal.read_top-returns-in_ok-second-in-Or-clause-value
read_top-returns-in_ok-second-in-Or-clause-value t c =
    let w = either_parts (declarations c.args.env.now) c.args.frames.now.items c.args.scope (meaning c.args.a.now) (meaning
    (arc_value c.in-Or.b)) (meaning (arc_value c.in-Or.d)) (ap meaning c.in-Or.is
    ∙ meaning_Or c.in-Or.b c.in-Or.d) c.requires.standing in
    let second = c.in_ok-second-in-Or.ensures.value ∙ ap (λ gs. formula_value (declarations c.args.env.now) (scope_of gs c.args.scope)
    (meaning (arc_value c.in-Or.d))) c.in_ok-first-in-Or.ensures.frames in
    meaning_Or c.in_ok-first-in-Or.first c.in_ok-second-in-Or.second
    ∙ ap (λ x. either x (meaning (arc_value c.in_ok-second-in-Or.second))) c.in_ok-first-in-Or.ensures.value
    ∙ ap (either (formula_value (declarations c.args.env.now) (scope_of c.args.frames.now.items c.args.scope) (meaning
    (arc_value c.in-Or.b)))) second ∙ sym w.2

pub read_top-returns-in_ok-second-in-Imp-clause-value : goal.read_top-returns-in_ok-second-in-Imp-clause-value
read_top-returns-in_ok-second-in-Imp-clause-value t c =
    let w = implies_parts (declarations c.args.env.now) c.args.frames.now.items c.args.scope (meaning c.args.a.now) (meaning
    (arc_value c.in-Imp.b)) (meaning (arc_value c.in-Imp.d)) (ap meaning c.in-Imp.is
    ∙ meaning_Imp c.in-Imp.b c.in-Imp.d) c.requires.standing in
    let second = c.in_ok-second-in-Imp.ensures.value ∙ ap (λ gs. formula_value (declarations c.args.env.now)
    (scope_of gs c.args.scope) (meaning (arc_value c.in-Imp.d))) c.in_ok-first-in-Imp.ensures.frames in
    meaning_Imp c.in_ok-first-in-Imp.first c.in_ok-second-in-Imp.second
    ∙ ap (λ x. implies x (meaning (arc_value c.in_ok-second-in-Imp.second))) c.in_ok-first-in-Imp.ensures.value
    ∙ ap (implies (formula_value (declarations c.args.env.now) (scope_of c.args.frames.now.items c.args.scope) (meaning
    (arc_value c.in-Imp.b)))) second ∙ sym w.2

pub read_top-returns-in_ok-copy-in-All-2-clause-value : goal.read_top-returns-in_ok-copy-in-All-2-clause-value
read_top-returns-in_ok-copy-in-All-2-clause-value t c =
    let w = all_part (declarations c.args.env.now) c.args.frames.now.items c.args.scope (meaning c.args.a.now) c.in-All.s c.in-All.x
    (meaning (arc_value c.in-All.b)) (ap meaning c.in-All.is ∙ meaning_All c.in-All.s c.in-All.x c.in-All.b) c.requires.standing in
    meaning_All c.in_ok-copy-in-All.field-0 c.in_ok-copy-in-All-2.field-0 c.in_ok-inner-in-All.inner
    ∙ ap (λ s. all s c.in_ok-copy-in-All-2.field-0 (meaning (arc_value c.in_ok-inner-in-All.inner))) c.in_ok-copy-in-All.ensures ∙
    ap (λ x. all c.in-All.s x (meaning (arc_value c.in_ok-inner-in-All.inner))) c.in_ok-copy-in-All-2.ensures
    ∙ ap (all c.in-All.s c.in-All.x) c.in_ok-inner-in-All.ensures.value ∙ sym w.1

pub read_top-returns-in_ok-copy-in-Ex-2-clause-value : goal.read_top-returns-in_ok-copy-in-Ex-2-clause-value
read_top-returns-in_ok-copy-in-Ex-2-clause-value t c =
    let w = ex_part (declarations c.args.env.now) c.args.frames.now.items c.args.scope (meaning c.args.a.now) c.in-Ex.s c.in-Ex.x
    (meaning (arc_value c.in-Ex.b)) (ap meaning c.in-Ex.is ∙ meaning_Ex c.in-Ex.s c.in-Ex.x c.in-Ex.b) c.requires.standing in
    meaning_Ex c.in_ok-copy-in-Ex.field-0 c.in_ok-copy-in-Ex-2.field-0 c.in_ok-inner-in-Ex.inner
    ∙ ap (λ s. ex s c.in_ok-copy-in-Ex-2.field-0 (meaning (arc_value c.in_ok-inner-in-Ex.inner))) c.in_ok-copy-in-Ex.ensures ∙
    ap (λ x. ex c.in-Ex.s x (meaning (arc_value c.in_ok-inner-in-Ex.inner))) c.in_ok-copy-in-Ex-2.ensures
    ∙ ap (ex c.in-Ex.s c.in-Ex.x) c.in_ok-inner-in-Ex.ensures.value ∙ sym w.1
