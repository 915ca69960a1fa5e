use Rattle.std.proofs.Common.{◌≡◌, ◌<◌, ◌≤◌, ◌+◌, [], ◌∷◌, ◌++◌, length, refl, sym, ap, subst, ◌∙◌, arith, rules}
use Rattle.term_core.specs.Term.{meaning, list_meaning}
use Rattle.term_core.proofs.Applications.{meaning_App}
use Rattle.fol_theory.specs.Syntax.{app}
use Rattle.env_theory.specs.Machine.{leads, Holds, place, left}
use Rattle.env_core.specs.Meaning.{declarations}
use Rattle.conv_core.specs.Frames.{scope_of}
use Rattle.conv_core.specs.Heads.{Standing, Onward}
use Rattle.conv_core.specs.declared.frame.Frame.TheVariants.{Body}
use Rattle.conv_core.proofs.Steps.{holds_variable, free_below, free_value, variable_step, definition_step, rigid_step, onward_more}
use Rattle.conv_core.proofs.Steps.{extends_none, meaning_Var, pushed_length, parameter_within, parameter_step}
use Rattle.env_core.specs.Summaries.{Projects}
use Rattle.env_core.proofs.Filling.{many_terms}
use Rattle.conv_core.proofs.head.head_of.Goals as goal

pub follow-requires-clause-holds : goal.follow-requires-clause-holds
follow-requires-clause-holds c =
    subst (λ fs. Holds (scope_of fs c.loop-t.scope) c.in-Var.i) (sym c.as_slice.ensures.value)
    (holds_variable (declarations c.args.env.now) c.loop-t.frames.items c.loop-t.scope c.loop-t.by (meaning c.loop-t.t.now) c.in-Var.i
    (ap meaning c.in-Var.is ∙ meaning_Var c.in-Var.i) c.loop-t.invariant.0)

pub follow-requires-clause-free : goal.follow-requires-clause-free
follow-requires-clause-free c = λ j l.
    free_below (declarations c.args.env.now) c.loop-t.frames.items c.loop-t.scope c.loop-t.by (meaning c.loop-t.t.now) c.in-Var.i j
    (ap meaning c.in-Var.is ∙ meaning_Var c.in-Var.i) c.loop-t.invariant.0
    (ap (λ fs. leads (scope_of fs c.loop-t.scope) c.loop-t.by c.in-Var.i) (sym c.as_slice.ensures.value) ∙ l)

pub returns-in-Free-clause-head : goal.returns-in-Free-clause-head
returns-in-Free-clause-head c = sym c.loop-t.invariant.1.1 ∙
    free_value (declarations c.args.env.now) c.loop-t.frames.items c.loop-t.scope c.loop-t.by
    (meaning c.loop-t.t.now) c.in-Var.i c.in-Free.j (ap meaning c.in-Var.is ∙ meaning_Var c.in-Var.i)
    (c.in-Free.ensures.spot ∙ ap (λ fs. leads (scope_of fs c.loop-t.scope) c.loop-t.by c.in-Var.i) c.as_slice.ensures.value)

pub loop-t-smaller-in-Argument : goal.loop-t-smaller-in-Argument
loop-t-smaller-in-Argument c =
    let fs = c.loop-t.frames.items in
    let w = variable_step (declarations c.args.env.now) fs c.loop-t.scope c.loop-t.by
    (meaning c.loop-t.t.now) c.in-Var.i c.in-Argument.outer c.in-Argument.binders (meaning c.in-Argument.u.now)
    (ap meaning c.in-Var.is ∙ meaning_Var c.in-Var.i) c.loop-t.invariant.0
    (ap (λ gs. place (scope_of gs c.in-Argument.outer) c.in-Argument.binders (meaning c.in-Argument.u.now))
    (sym c.as_slice.ensures.value) ∙ c.in-Argument.ensures.spot
    ∙ ap (λ gs. leads (scope_of gs c.loop-t.scope) c.loop-t.by c.in-Var.i) c.as_slice.ensures.value)
    (subst (λ gs. c.in-Argument.outer ≤ length gs) c.as_slice.ensures.value c.in-Argument.ensures.within) in
    w.2

pub loop-t-preserved-in-Argument : goal.loop-t-preserved-in-Argument
loop-t-preserved-in-Argument c =
    let fs = c.loop-t.frames.items in
    let w = variable_step (declarations c.args.env.now) fs c.loop-t.scope c.loop-t.by
    (meaning c.loop-t.t.now) c.in-Var.i c.in-Argument.outer c.in-Argument.binders (meaning c.in-Argument.u.now)
    (ap meaning c.in-Var.is ∙ meaning_Var c.in-Var.i) c.loop-t.invariant.0
    (ap (λ gs. place (scope_of gs c.in-Argument.outer) c.in-Argument.binders (meaning c.in-Argument.u.now))
    (sym c.as_slice.ensures.value) ∙ c.in-Argument.ensures.spot
    ∙ ap (λ gs. leads (scope_of gs c.loop-t.scope) c.loop-t.by c.in-Var.i) c.as_slice.ensures.value)
    (subst (λ gs. c.in-Argument.outer ≤ length gs) c.as_slice.ensures.value c.in-Argument.ensures.within) in (
      w.0,
      onward_more (declarations c.args.env.now) c.args.frames.now.items (scope_of c.args.frames.now.items c.args.scope) c.args.by
          (meaning c.args.term.now) fs c.loop-t.scope c.loop-t.by
          (meaning c.loop-t.t.now) fs c.in-Argument.outer c.in-Argument.binders (meaning c.in-Argument.u.now)
          c.loop-t.invariant.1 (extends_none fs) w.1 w.2 w.3,
    )

pub returns-in-None-clause-head : goal.returns-in-None-clause-head
returns-in-None-clause-head c =
    let w = rigid_step (declarations c.args.env.now) c.requires.environment c.loop-t.frames.items c.loop-t.scope c.loop-t.by
    (meaning c.loop-t.t.now) c.in-App.f (list_meaning c.as_slice-in-None.result.now)
    (ap meaning c.in-App.is ∙ meaning_App c.in-App.f c.in-App.ts
    ∙ ap (λ l. app c.in-App.f (list_meaning l)) (sym c.as_slice-in-None.ensures.value)) c.loop-t.invariant.0
    (sym c.in-None.ensures.body) in
    (sym c.loop-t.invariant.1.1 ∙ w.0, omega (arith, w.1, c.loop-t.invariant.1.2), w.2)

pub argument_of-t-requires : goal.argument_of-t-requires
argument_of-t-requires c =
    let E = declarations c.args.env.now in
    let fs = c.loop-t.frames.items in
    let us = c.as_slice-in-Some-projects.result.now in
    let b = meaning c.in-Some.definition.body.now in
    let i = c.in-Some-projects.i in
    let e = ap meaning c.in-App.is ∙ meaning_App c.in-App.f c.in-App.ts
    ∙ ap (λ l. app c.in-App.f (list_meaning l)) (sym c.as_slice-in-Some-projects.ensures.value) in
    let p = subst (Projects E b) c.in-Some-projects.is c.in-Some.ensures.parameter in
    subst (λ n. i < n) (many_terms us)
    (parameter_within E c.requires.environment fs c.loop-t.scope c.loop-t.by (meaning c.loop-t.t.now) c.in-App.f (list_meaning us) b i e
    c.loop-t.invariant.0 (sym c.in-Some.ensures.body) p)

pub loop-t-smaller-in-Some-projects : goal.loop-t-smaller-in-Some-projects
loop-t-smaller-in-Some-projects c =
    let E = declarations c.args.env.now in
    let fs = c.loop-t.frames.items in
    let us = c.as_slice-in-Some-projects.result.now in
    let b = meaning c.in-Some.definition.body.now in
    let i = c.in-Some-projects.i in
    let e = ap meaning c.in-App.is ∙ meaning_App c.in-App.f c.in-App.ts
    ∙ ap (λ l. app c.in-App.f (list_meaning l)) (sym c.as_slice-in-Some-projects.ensures.value) in
    let p = subst (Projects E b) c.in-Some-projects.is c.in-Some.ensures.parameter in
    let w = parameter_step E c.requires.environment fs c.loop-t.scope c.loop-t.by (meaning c.loop-t.t.now) c.in-App.f (list_meaning us) b i
    (meaning c.argument_of-t.result.now) e c.loop-t.invariant.0 (sym c.in-Some.ensures.body) p c.argument_of-t.ensures in
    w.2

pub loop-t-preserved-in-Some-projects : goal.loop-t-preserved-in-Some-projects
loop-t-preserved-in-Some-projects c =
    let E = declarations c.args.env.now in
    let fs = c.loop-t.frames.items in
    let us = c.as_slice-in-Some-projects.result.now in
    let b = meaning c.in-Some.definition.body.now in
    let i = c.in-Some-projects.i in
    let e = ap meaning c.in-App.is ∙ meaning_App c.in-App.f c.in-App.ts
    ∙ ap (λ l. app c.in-App.f (list_meaning l)) (sym c.as_slice-in-Some-projects.ensures.value) in
    let p = subst (Projects E b) c.in-Some-projects.is c.in-Some.ensures.parameter in
    let w = parameter_step E c.requires.environment fs c.loop-t.scope c.loop-t.by (meaning c.loop-t.t.now) c.in-App.f (list_meaning us) b i
    (meaning c.argument_of-t.result.now) e c.loop-t.invariant.0 (sym c.in-Some.ensures.body) p c.argument_of-t.ensures in (
      w.0,
      onward_more E c.args.frames.now.items (scope_of c.args.frames.now.items c.args.scope) c.args.by (meaning c.args.term.now) fs
          c.loop-t.scope c.loop-t.by (meaning c.loop-t.t.now) fs c.loop-t.scope c.loop-t.by (meaning c.argument_of-t.result.now)
          c.loop-t.invariant.1 (extends_none fs) w.1 w.2 w.3,
    )

pub loop-t-smaller : goal.loop-t-smaller
loop-t-smaller c =
    let fs = c.loop-t.frames.items in
    let w = definition_step (declarations c.args.env.now) c.requires.environment fs c.loop-t.scope c.loop-t.by
    (meaning c.loop-t.t.now) c.in-App.f (list_meaning c.as_slice-in-None-projects.result.now) (meaning c.in-Some.definition.body.now)
    (Body c.as_slice-in-None-projects.result c.loop-t.scope)
    (ap meaning c.in-App.is ∙ meaning_App c.in-App.f c.in-App.ts
    ∙ ap (λ l. app c.in-App.f (list_meaning l)) (sym c.as_slice-in-None-projects.ensures.value)) c.loop-t.invariant.0
    (sym c.in-Some.ensures.body) refl refl in
    let k = c.in_ok-push-in-None-projects.ensures.items in
    let size : c.len-scope.result ≡ length c.push.new.self.items = search rules in
    let q = pushed_length fs (Body c.as_slice-in-None-projects.result c.loop-t.scope) c.push.new.self.items c.len-scope.result k size in
    subst (λ gs. left (declarations c.args.env.now) (scope_of gs c.len-scope.result) (meaning c.in-Some.definition.body.now) < left
    (declarations c.args.env.now) (scope_of fs c.loop-t.scope) (meaning c.loop-t.t.now)) (sym k)
    (subst (λ n. left (declarations c.args.env.now) (scope_of (fs ++ (Body c.as_slice-in-None-projects.result c.loop-t.scope ∷ [])) n)
    (meaning c.in-Some.definition.body.now) < left (declarations c.args.env.now) (scope_of fs c.loop-t.scope)
    (meaning c.loop-t.t.now)) (sym q) w.2)

pub loop-t-preserved : goal.loop-t-preserved
loop-t-preserved c =
    let fs = c.loop-t.frames.items in
    let w = definition_step (declarations c.args.env.now) c.requires.environment fs c.loop-t.scope c.loop-t.by
    (meaning c.loop-t.t.now) c.in-App.f (list_meaning c.as_slice-in-None-projects.result.now) (meaning c.in-Some.definition.body.now)
    (Body c.as_slice-in-None-projects.result c.loop-t.scope)
    (ap meaning c.in-App.is ∙ meaning_App c.in-App.f c.in-App.ts
    ∙ ap (λ l. app c.in-App.f (list_meaning l)) (sym c.as_slice-in-None-projects.ensures.value)) c.loop-t.invariant.0
    (sym c.in-Some.ensures.body) refl refl in
    let k = c.in_ok-push-in-None-projects.ensures.items in
    let size : c.len-scope.result ≡ length c.push.new.self.items = search rules in
    let q = pushed_length fs (Body c.as_slice-in-None-projects.result c.loop-t.scope) c.push.new.self.items c.len-scope.result k size in
    let o = onward_more (declarations c.args.env.now) c.args.frames.now.items
    (scope_of c.args.frames.now.items c.args.scope) c.args.by (meaning c.args.term.now) fs c.loop-t.scope c.loop-t.by
    (meaning c.loop-t.t.now)
    (fs ++ (Body c.as_slice-in-None-projects.result c.loop-t.scope ∷ [])) (length fs + 1) c.loop-t.by
    (meaning c.in-Some.definition.body.now) c.loop-t.invariant.1
    (Body c.as_slice-in-None-projects.result c.loop-t.scope ∷ [], refl) w.1 w.2 w.3 in (
      subst (λ gs. Standing (declarations c.args.env.now) gs c.len-scope.result c.loop-t.by (meaning c.in-Some.definition.body.now)) (sym k)
          (subst (λ n. Standing (declarations c.args.env.now) (fs ++
          (Body c.as_slice-in-None-projects.result c.loop-t.scope ∷ [])) n c.loop-t.by (meaning c.in-Some.definition.body.now))
          (sym q) w.0),
      subst (λ gs. Onward (declarations c.args.env.now) c.args.frames.now.items
          (scope_of c.args.frames.now.items c.args.scope) c.args.by (meaning c.args.term.now) gs c.len-scope.result c.loop-t.by
          (meaning c.in-Some.definition.body.now)) (sym k)
          (subst (λ n. Onward (declarations c.args.env.now) c.args.frames.now.items
          (scope_of c.args.frames.now.items c.args.scope) c.args.by (meaning c.args.term.now) (fs ++
          (Body c.as_slice-in-None-projects.result c.loop-t.scope ∷ [])) n c.loop-t.by (meaning c.in-Some.definition.body.now)) (sym q) o),
    )
