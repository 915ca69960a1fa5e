use Rattle.std.proofs.Common.{◌≡◌, ◌-◌, [], take, sym, ap, ◌∙◌, arith}
use Rattle.std.proofs.lemmas.Grind.{common_steps}
use Rattle.fol_theory.specs.Syntax.{app, nil}
use Rattle.fol_theory.specs.Measures.{term_nodes}
use Rattle.term_core.specs.Term.{meaning, list_meaning}
use Rattle.term_core.proofs.Applications.{meaning_App}
use Rattle.env_core.specs.Filled.{scope_of, filled}
use Rattle.env_core.proofs.Results.{if_ok}
use Rattle.env_core.proofs.Filling.{meaning_Var, filled_bound, older_filled, argument_step, last_variable, element_nodes}
use Rattle.env_core.proofs.Filling.{all_made}
use Rattle.env_core.proofs.head.+fill_term.Goals as goal

pub fill_term-returns-then-i-binders : goal.fill_term-returns-then-i-binders
fill_term-returns-then-i-binders t c =
    if_ok c.raised.result (λ r e. e
    ∙ sym (ap (filled (scope_of c.args.frames.now) c.args.binders c.args.by) (ap meaning c.in-Var.is ∙ meaning_Var c.in-Var.i)
    ∙ filled_bound (scope_of c.args.frames.now) c.args.binders c.args.by c.in-Var.i c.if-i-binders.true)) c.raised.ensures

pub fill_term-fill_variable-requires : goal.fill_term-fill_variable-requires
fill_term-fill_variable-requires t c =
    let n = ap term_nodes (older_filled c.args.frames.now c.args.binders c.args.by c.in-Var.i c.in-Some.around c.args.t.now c.in-Var.is
    c.if-i-binders.false c.in-Some.ensures.1) in
    (omega (arith, c.decreases, n), tt)

pub fill_term-returns-in-Some : goal.fill_term-returns-in-Some
fill_term-returns-in-Some t c = if_ok c.fill_variable.result (λ r e. e
    ∙ sym (older_filled c.args.frames.now c.args.binders c.args.by c.in-Var.i c.in-Some.around c.args.t.now c.in-Var.is
    c.if-i-binders.false c.in-Some.ensures.1)) c.fill_variable.ensures

pub fill_terms-fill_term-requires : goal.fill_terms-fill_term-requires
fill_terms-fill_term-requires t c =
    let n = element_nodes (scope_of c.args.frames.now) c.args.binders c.args.by c.args.ts.now c.loop-t.t-index c.t-item.result
    c.loop-t-test.true c.t-item.is in
    (omega (arith, c.decreases, n), tt)

pub fill_terms-returns : goal.fill_terms-returns
fill_terms-returns t c =
    let all : take c.loop-t.t-index c.args.ts.now ≡ c.args.ts.now = grind (arith, common_steps) in
    ap list_meaning c.in_ok-from_vec.ensures
    ∙ all_made (scope_of c.args.frames.now) c.args.binders c.args.by c.args.ts.now
    (take c.loop-t.t-index c.args.ts.now) c.loop-t.made.items all c.loop-t.invariant

pub fill_variable-returns-in-None : goal.fill_variable-returns-in-None
fill_variable-returns-in-None t c =
    let v = argument_step c.args.frames.now c.loop-left.left c.args.by c.loop-left.i c.index-frames-left.result (app [] nil)
    c.loop-left-test.true c.loop-left.invariant.0 c.in-None.ensures in
    if_ok c.closed.result (λ r e. e ∙ sym v ∙ c.loop-left.invariant.1) c.closed.ensures

pub fill_variable-loop-left-preserved : goal.fill_variable-loop-left-preserved
fill_variable-loop-left-preserved t c =
    let v = argument_step c.args.frames.now c.loop-left.left c.args.by c.loop-left.i c.index-frames-left.result (meaning c.in-Some.t.now)
    c.loop-left-test.true c.loop-left.invariant.0 c.in-Some.ensures in (
      omega (arith, c.loop-left.invariant.0),
      ap (filled (scope_of (take (c.loop-left.left - 1) c.args.frames.now)) 0 c.args.by) (sym (ap meaning c.in-Var.is
          ∙ meaning_Var c.in-Var.j)) ∙ sym v ∙ c.loop-left.invariant.1,
    )

pub fill_variable-fill_application-requires : goal.fill_variable-fill_application-requires
fill_variable-fill_application-requires t c =
    let v = argument_step c.args.frames.now c.loop-left.left c.args.by c.loop-left.i c.index-frames-left.result (meaning c.in-Some.t.now)
    c.loop-left-test.true c.loop-left.invariant.0 c.in-Some.ensures in
    let n = ap term_nodes (ap (filled (scope_of (take (c.loop-left.left - 1) c.args.frames.now)) 0 c.args.by) (sym (ap meaning c.in-App.is
    ∙ meaning_App c.in-App.f c.in-App.ts)) ∙ sym v ∙ c.loop-left.invariant.1) in
    (omega (arith, c.decreases, n), tt)

pub fill_variable-returns-in-App : goal.fill_variable-returns-in-App
fill_variable-returns-in-App t c =
    let v = argument_step c.args.frames.now c.loop-left.left c.args.by c.loop-left.i c.index-frames-left.result (meaning c.in-Some.t.now)
    c.loop-left-test.true c.loop-left.invariant.0 c.in-Some.ensures in
    let w = ap (filled (scope_of (take (c.loop-left.left - 1) c.args.frames.now)) 0 c.args.by) (sym (ap meaning c.in-App.is
    ∙ meaning_App c.in-App.f c.in-App.ts)) ∙ sym v ∙ c.loop-left.invariant.1 in
    if_ok c.fill_application.result (λ r e. e ∙ w) c.fill_application.ensures

pub fill_variable-returns : goal.fill_variable-returns
fill_variable-returns t c =
    let w = sym (last_variable c.args.frames.now c.loop-left.left c.args.by c.loop-left.i c.loop-left-test.false)
    ∙ c.loop-left.invariant.1 in
    if_ok c.raised.result (λ r e. e ∙ w) c.raised.ensures
