use Rattle.std.proofs.Common.{[], ◌∷◌, sym, ap, ◌∙◌}
use Rattle.fol_theory.specs.Slots.{names, slots_without}
use Rattle.logic_theory.specs.Rules.{cut, drop, hyp, leaf, step}
use Rattle.term_core.specs.Formula.{meaning}
use Rattle.env_core.specs.Meaning.{declaration}
use Rattle.env_core.proofs.Results.{if_ok}
use Rattle.tactic_theory.specs.Refinements.{mentions}
use Rattle.tac_base.specs.Openings.{made, opening}
use Rattle.tac_base.specs.Sites.{env_of, goal_at}
use Rattle.tac_eq.proofs.Unfolds.{unfolds_moved, unfolds_kept}
use Rattle.tac_eq.proofs.unfold.unfold_at.Goals as goal

pub returns-then-not-mentions : goal.returns-then-not-mentions
returns-then-not-mentions c =
    let a = meaning c.in_ok-a.a in
    if_ok c.left_open.result (λ o k. unfolds_kept (env_of c.args.site.now) c.requires.ready.environment (declaration c.args.decl.now)
    c.requires.put (goal_at c.args.site.now) c.requires.ready.formed c.args.name.now c.args.number a c.in_ok-a.ensures c.requires.below
    (ap (λ n. mentions n a) (sym c.name.ensures) ∙ sym c.mentions.ensures ∙ c.if-not-mentions.true) (opening o) k) c.left_open.ensures

pub returns : goal.returns
returns c =
    let d = declaration c.args.decl.now in
    let a = meaning c.in_ok-a.a in
    let g = goal_at c.args.site.now in
    let n = c.args.name.now in
    let i = c.args.number in
    if_ok c.moved.result (λ o k. unfolds_moved (env_of c.args.site.now) c.requires.ready.environment d
    c.requires.put g c.requires.ready.formed n i a c.in_ok-a.ensures c.requires.below
    (ap (λ m. mentions m a) (sym c.name.ensures) ∙ sym c.mentions.ensures ∙ c.if-not-mentions.false) (opening o)
    (k ∙ ap (λ b. made (step (cut b) ∷ step (hyp i) ∷ step (drop i) ∷ leaf (n ∷ names (slots_without g.slots i)) ∷ []) (b ∷ g.shown ∷ []))
    c.in_ok-b.ensures)) c.moved.ensures
