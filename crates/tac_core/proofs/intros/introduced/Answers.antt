use Rattle.std.proofs.Common.{sym, ap, subst, ◌∙◌}
use Rattle.term_core.specs.Context.{slots}
use Rattle.term_core.specs.Formula.{meaning}
use Rattle.tac_base.specs.Openings.{drafted, Opens}
use Rattle.tac_base.specs.Sites.{env_of, goal_at}
use Rattle.tac_base.specs.Tops.{formula_of}
use Rattle.tac_core.proofs.Walks.{Walked, walk_variable, walk_premise, walk_ends, finished}
use Rattle.tac_core.proofs.intros.introduced.Goals as goal

pub loop-sort-preserved-in-All : goal.loop-sort-preserved-in-All
loop-sort-preserved-in-All c =
    let E = env_of c.args.site.now in
    let g = goal_at c.args.site.now in
    let l = slots c.loop-sort.context in
    let m = drafted c.loop-sort.draft in
    walk_variable E g l m c.in-All.sort.now c.in-All.printed.now (meaning c.in-All.body.now) _ _
    (subst (Walked E g l m) (sym c.top_of.ensures ∙ ap formula_of c.in-All.is) c.loop-sort.invariant)
    c.in_ok-context-in-All.ensures.context c.in_ok-context-in-All.ensures.draft

pub loop-sort-preserved : goal.loop-sort-preserved
loop-sort-preserved c =
    let E = env_of c.args.site.now in
    let g = goal_at c.args.site.now in
    let l = slots c.loop-sort.context in
    let m = drafted c.loop-sort.draft in
    walk_premise E g l m (meaning c.in-Implies.premise.now) (meaning c.in-Implies.conclusion.now) _ _
    (subst (Walked E g l m) (sym c.top_of.ensures ∙ ap formula_of c.in-Implies.is) c.loop-sort.invariant)
    c.in_ok-context-in-Implies.ensures.context c.in_ok-context-in-Implies.ensures.draft

pub returns-in_default : goal.returns-in_default
returns-in_default c =
    let E = env_of c.args.site.now in
    let g = goal_at c.args.site.now in
    finished E g _ _ c.finish.result c.finish.ensures (subst (Opens E g _) (sym c.in_ok-leave-in_default.ensures)
    (walk_ends E g (slots c.loop-sort.context) (drafted c.loop-sort.draft) c.top_of.result (meaning c.loop-sort.at.now) c.top_of.ensures
    (λ s x b q. c.in_default.not-All s x b q) (λ x y q. c.in_default.not-Implies x y q) c.loop-sort.invariant))
