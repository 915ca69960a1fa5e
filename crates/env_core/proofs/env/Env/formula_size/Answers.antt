use Rattle.std.proofs.Common.{◌≡◌, ◌^◌, min, IfOk, ap, subst, ◌∙◌}
use Rattle.term_core.specs.Formula as formula
use Rattle.env_theory.specs.Count.{by_nodes, by_height, count, each}
use Rattle.env_theory.specs.Typing.{Environment}
use Rattle.env_theory.proofs.Counts.{nodes_counted, height_counted}
use Rattle.env_core.specs.Meaning.{declarations}
use Rattle.env_core.specs.Rows.{nodes_table, height_table}
use Rattle.env_core.proofs.env.Env.formula_size.Goals as goal

pub returns-clause-nodes : goal.returns-clause-nodes
returns-clause-nodes c =
    let E = declarations c.args.self.now in
    let a = formula.meaning c.args.a.now in
    subst (λ r. IfOk r (λ s. s.nodes ≡ min (count by_nodes (nodes_table c.args.self.now) 1 each a) (2 ^ 32)))
    c.in-Ok.is c.formula_tally.ensures.nodes ∙ ap (λ z. min z (2 ^ 32))
    (nodes_counted E (subst (λ ds. Environment (declarations ds)) c.self.view_is c.self.invariant.0) c.requires.0 a c.requires.1)

pub returns-clause-height : goal.returns-clause-height
returns-clause-height c =
    let E = declarations c.args.self.now in
    let a = formula.meaning c.args.a.now in
    subst (λ r. IfOk r (λ s. s.height ≡ min (count by_height (height_table c.args.self.now) 1 each a) (2 ^ 32)))
    c.in-Ok.is c.formula_tally.ensures.height ∙ ap (λ z. min z (2 ^ 32))
    (height_counted E (subst (λ ds. Environment (declarations ds)) c.self.view_is c.self.invariant.0) c.requires.0 a c.requires.1)
