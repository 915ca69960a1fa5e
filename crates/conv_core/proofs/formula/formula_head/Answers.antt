use Rattle.std.proofs.Common.{◌≡◌, ◌<◌, ◌+◌, [], ◌∷◌, ◌++◌, length, refl, sym, ap, subst, ◌∙◌, arith, rules}
use Rattle.term_core.specs.Term.{list_meaning}
use Rattle.term_core.specs.Formula.{meaning}
use Rattle.env_theory.specs.Scopes.{formula_value}
use Rattle.env_theory.specs.Machine.{formula_left}
use Rattle.env_core.specs.Meaning.{declarations}
use Rattle.conv_core.specs.Frames.{scope_of}
use Rattle.conv_core.specs.Formulas.{StandingFormula}
use Rattle.conv_core.specs.declared.frame.Frame.TheVariants.{Body}
use Rattle.conv_core.proofs.Steps.{pushed_length, extends_more}
use Rattle.conv_core.proofs.Tops.{formula_step}
use Rattle.conv_core.proofs.formula.formula_head.Goals as goal

pub loop-opened-smaller : goal.loop-opened-smaller
loop-opened-smaller c =
    let fs = c.loop-opened.frames.items in
    let h = c.in-Some.ensures in
    let w = formula_step (declarations c.args.env.now) c.requires.environment fs c.loop-opened.scope (meaning c.loop-opened.a.now) h.0
    (list_meaning c.in-Some.opened.arguments.now) (meaning c.in-Some.opened.body.now)
    (Body c.in-Some.opened.arguments c.loop-opened.scope) h.1 c.loop-opened.invariant.0 h.2 refl refl in
    let k = c.in_ok-push.ensures.items in
    let size : c.len-scope.result ≡ length c.push.new.self.items = search rules in
    let q = pushed_length fs (Body c.in-Some.opened.arguments c.loop-opened.scope) c.push.new.self.items c.len-scope.result k size in
    let b = meaning c.in-Some.opened.body.now in
    let gs = fs ++ (Body c.in-Some.opened.arguments c.loop-opened.scope ∷ []) in
    let p : scope_of c.push.new.self.items c.len-scope.result ≡ scope_of gs (length fs + 1) = λ i. scope_of (k i) (q i) in
    subst (λ s. formula_left (declarations c.args.env.now) s b < formula_left (declarations c.args.env.now)
    (scope_of fs c.loop-opened.scope) (meaning c.loop-opened.a.now)) (sym p) w.2

pub loop-opened-preserved : goal.loop-opened-preserved
loop-opened-preserved c =
    let fs = c.loop-opened.frames.items in
    let h = c.in-Some.ensures in
    let w = formula_step (declarations c.args.env.now) c.requires.environment fs c.loop-opened.scope (meaning c.loop-opened.a.now) h.0
    (list_meaning c.in-Some.opened.arguments.now) (meaning c.in-Some.opened.body.now)
    (Body c.in-Some.opened.arguments c.loop-opened.scope) h.1 c.loop-opened.invariant.0 h.2 refl refl in
    let k = c.in_ok-push.ensures.items in
    let size : c.len-scope.result ≡ length c.push.new.self.items = search rules in
    let q = pushed_length fs (Body c.in-Some.opened.arguments c.loop-opened.scope) c.push.new.self.items c.len-scope.result k size in
    let b = meaning c.in-Some.opened.body.now in
    let gs = fs ++ (Body c.in-Some.opened.arguments c.loop-opened.scope ∷ []) in
    let p : scope_of c.push.new.self.items c.len-scope.result ≡ scope_of gs (length fs + 1) = λ i. scope_of (k i) (q i) in
    let l : formula_left (declarations c.args.env.now) (scope_of c.push.new.self.items c.len-scope.result) b
    ≡ formula_left (declarations c.args.env.now) (scope_of gs (length fs + 1)) b = ap (λ s. formula_left
    (declarations c.args.env.now) s b) p in (
      subst (λ hs. StandingFormula (declarations c.args.env.now) hs c.len-scope.result b) (sym k) (subst (λ n. StandingFormula
          (declarations c.args.env.now) gs n b) (sym q) w.0),
      extends_more c.args.frames.now.items fs c.push.new.self.items c.loop-opened.invariant.1
          (Body c.in-Some.opened.arguments c.loop-opened.scope ∷ [], k),
      ap (λ s. formula_value (declarations c.args.env.now) s b) p ∙ w.1 ∙ c.loop-opened.invariant.2,
      omega (arith, l, w.2, c.loop-opened.invariant.3),
    )
