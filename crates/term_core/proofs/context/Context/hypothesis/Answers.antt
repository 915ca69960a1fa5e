use Rattle.std.proofs.Common.{rules, ◌≡◌, ◌+◌, ◌∷◌, ap, sym, subst, ◌∙◌}
use Rattle.fol_theory.specs.Contexts.{variable, hypothesis, count}
use Rattle.fol_theory.specs.Slots.{entries}
use Rattle.term_core.specs.Context.{slot_meaning, slots}
use Rattle.term_core.specs.Formula as formula
use Rattle.term_core.proofs.Layers.{layers}
use Rattle.term_core.proofs.Hypotheses.{IsBehind, behind_none, pass_variable, pass_hypothesis, stands_numbered}
use Rattle.term_core.proofs.context.Context.hypothesis.Goals as goal
use Rattle.term_core.proofs.context.Context.hypothesis.Goals.{in-Var+in_ok-newer-in-Var, in-Hyp+else-left-number-2}

pub loop-at-init : goal.loop-at-init
loop-at-init c =
    let k = behind_none (entries (slots c.args.self.now)) in
    (search rules, search rules, k)

pub loop-at-preserved : goal.loop-at-preserved
loop-at-preserved c =
    let x = slot_meaning c.behind-layer.inside.slot in
    let e = entries (slots c.loop-at.at.now) in
    let d = entries (slots c.behind-layer-in-Pushed.inside.older) in
    let all = entries (slots c.args.self.now) in
    let parts : slots c.loop-at.at.now ≡ x ∷ slots c.behind-layer-in-Pushed.inside.older = search (rules, layers) in
    elim c.match-deref.branch [
      | in-Var+in_ok-newer-in-Var w ↦
          let split : e ≡ variable w.in-Var.sort ∷ d = ap entries parts ∙ ap (λ s. (slot_meaning s).entry ∷ d) w.in-Var.is in
          let counted = ap count split in
          let more : c.match-deref.newer ≡ c.loop-at.newer + 1 = search rules in
          let k = pass_variable e d all w.in-Var.sort c.loop-at.newer split c.loop-at.invariant.2 in
          (search rules, search rules, subst (IsBehind d all) (sym more) k)
      | in-Hyp+else-left-number-2 w ↦
          let a = formula.meaning w.in-Hyp.formula in
          let split : e ≡ hypothesis a ∷ d = ap entries parts ∙ ap (λ s. (slot_meaning s).entry ∷ d) w.in-Hyp.is in
          let counted = ap count split in
          let k = pass_hypothesis e d all a c.loop-at.newer split c.loop-at.invariant.2 in
          (search rules, search rules, subst (IsBehind d all) (sym w.newer-is) k)
    ]

pub returns-then-left-number-2-clause-numbered : goal.returns-then-left-number-2-clause-numbered
returns-then-left-number-2-clause-numbered c =
    let a = formula.meaning c.in-Hyp.formula in
    stands_numbered (entries (slots c.args.self.now)) c.args.number c.loop-at.newer a (search (rules, layers))
