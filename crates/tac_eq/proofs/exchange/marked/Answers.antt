use Rattle.std.proofs.Common.{map, ap, ◌∙◌}
use Rattle.fol_theory.specs.Contexts.{variables}
use Rattle.fol_theory.specs.Slots.{entries}
use Rattle.fol_theory.specs.Substitution.{instantiate, replace}
use Rattle.match_theory.specs.Instances.{fill}
use Rattle.match_theory.specs.Places.{abstracted}
use Rattle.term_core.specs.Formula as formula
use Rattle.term_core.specs.Term.{meaning}
use Rattle.match_core.proofs.Lowered.{meaning_Var}
use Rattle.tac_base.specs.Sites.{env_of, goal_at}
use Rattle.tac_eq.proofs.Marked.{abstracted_formed, marked_is}
use Rattle.tac_eq.proofs.exchange.marked.Goals as goal

pub returns : goal.returns
returns c =
    let E = env_of c.args.site.now in
    let g = goal_at c.args.site.now in
    let V = variables (entries g.slots) in
    let t = meaning c.args.from.now in
    let n = c.args.site.now.variables in
    let ts = map meaning c.in_ok-turned.turned.items in
    c.in_ok-body.ensures
    ∙ ap (λ us. replace (fill (map meaning us)) (formula.meaning c.in_ok-marked.marked)) c.deref.ensures.value
    ∙ ap (replace (fill ts)) c.in_ok-marked.ensures
    ∙ ap (λ v. replace (fill ts) (instantiate (abstracted 0 t g.shown) v)) (meaning_Var n)
    ∙ marked_is E V c.requires.sorted.0 n c.requires.ready.counted ts c.in_ok-turned.ensures (abstracted 0 t g.shown)
    (abstracted_formed E V t c.requires.sorted.0 c.requires.sorted.1 g.shown c.requires.ready.formed.1)
