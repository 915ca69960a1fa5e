use Rattle.std.proofs.Common.{◌≡◌, ◌+◌, ◌++◌, ◌∷◌, [], map, length, sym, ap, subst, ◌∙◌, arith}
use Rattle.std.proofs.lemmas.List.{map-append, length_push}
use Rattle.fol_theory.specs.Syntax.{var}
use Rattle.match_theory.specs.Instances.{fill}
use Rattle.term_core.specs.Term.{meaning}
use Rattle.match_core.proofs.Lowered.{meaning_Var}
use Rattle.tac_eq.specs.Rewriting.{Turns}
use Rattle.tac_eq.proofs.Marked.{turns_more, turns_all}
use Rattle.tac_eq.proofs.exchange.turned.Goals as goal

pub loop-i-preserved : goal.loop-i-preserved
loop-i-preserved c =
    let old = map meaning c.loop-i.terms.items in
    let i = c.loop-i.i in
    let is : map meaning c.push.new.self.items ≡ old ++ var (i + 1) ∷ [] =
    ap (map meaning) c.in_ok-push.ensures.items ∙ map-append meaning c.loop-i.terms.items _
    ∙ ap (λ t. old ++ t ∷ []) (meaning_Var (i + 1)) in
    record {
      many = ap length is ∙ length_push old (var (i + 1)) ∙ ap (λ n. n + 1) c.loop-i.invariant.many;
      each = λ j h. ap (λ ts. fill ts j) is ∙ turns_more i old c.loop-i.invariant.many c.loop-i.invariant.each j h;
    }

pub returns : goal.returns
returns c =
    let old = map meaning c.loop-i.terms.items in
    let n = c.args.n in
    let end : c.loop-i.i ≡ n = omega (arith, c.loop-i-test.false, c.loop-i.auto.i-end) in
    let is : map meaning c.push-2.new.self.items ≡ old ++ var 0 ∷ [] =
    ap (map meaning) c.in_ok-push-2.ensures.items ∙ map-append meaning c.loop-i.terms.items _
    ∙ ap (λ t. old ++ t ∷ []) (meaning_Var 0) in
    subst (Turns n) (sym is) (subst (λ k. Turns k (old ++ var 0 ∷ [])) end
    (turns_all c.loop-i.i old c.loop-i.invariant.many c.loop-i.invariant.each))
