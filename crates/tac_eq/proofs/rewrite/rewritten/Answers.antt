use Rattle.std.proofs.Common.{◌∷◌, sym, subst, ◌∙◌}
use Rattle.fol_theory.specs.Contexts.{variables}
use Rattle.fol_theory.specs.Slots.{entries}
use Rattle.fol_theory.specs.Substitution.{instantiate}
use Rattle.env_theory.specs.Typing.{HasSort}
use Rattle.match_theory.specs.Places.{abstracted}
use Rattle.proof_tree.specs.Meaning.{meanings}
use Rattle.tac_base.specs.Openings.{made}
use Rattle.tac_base.specs.Sites.{env_of, goal_at}
use Rattle.tac_eq.specs.Rewriting.{rewriting}
use Rattle.tac_eq.proofs.rewrite.rewritten.Goals as goal

pub exchanging-requires-clause-sorted : goal.exchanging-requires-clause-sorted
exchanging-requires-clause-sorted c =
    subst (λ t. HasSort (env_of c.args.site.now) (variables (entries (goal_at c.args.site.now).slots)) t c.args.sides.now.sort.now)
    (sym c.in_ok-from.ensures) c.requires.sorted

pub returns : goal.returns
returns c =
    let g = goal_at c.args.site.now in
    let sides = c.args.sides.now in
    let formula = c.in_ok-goal.ensures ∙ (λ i. instantiate (abstracted 0 (c.in_ok-from.ensures i) g.shown) (c.in_ok-to.ensures i)) in
    let rules = c.in_ok-rules.ensures (meanings c.in_ok-behind.behind.rules.items)
    ∙ (λ i. rewriting sides.back sides.sort.now (c.in_ok-from.ensures i) (c.in_ok-to.ensures i) g.slots g.shown
    (c.in_ok-behind.ensures.rules i)) in
    c.in_ok-opening.ensures ∙ (λ i. made (rules i) (formula i ∷ c.in_ok-behind.ensures.premises i))
