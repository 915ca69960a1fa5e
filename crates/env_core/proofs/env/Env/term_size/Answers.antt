use Rattle.std.proofs.Common.{◌^◌, min, ap, subst, ◌∙◌}
use Rattle.term_core.specs.Term as term
use Rattle.env_theory.specs.Typing.{Environment}
use Rattle.env_theory.proofs.Counts.{term_nodes_counted, term_height_counted}
use Rattle.env_core.specs.Meaning.{declarations}
use Rattle.env_core.proofs.env.Env.term_size.Goals as goal

pub returns-clause-nodes : goal.returns-clause-nodes
returns-clause-nodes c = c.term_tally.ensures.nodes ∙ ap (λ z. min z (2 ^ 32))
    (term_nodes_counted (declarations c.args.self.now) (subst (λ ds. Environment (declarations ds)) c.self.view_is c.self.invariant.0)
    c.requires.0 (term.meaning c.args.t.now) c.requires.1 c.requires.2)

pub returns-clause-height : goal.returns-clause-height
returns-clause-height c = c.term_tally.ensures.height ∙ ap (λ z. min z (2 ^ 32))
    (term_height_counted (declarations c.args.self.now) (subst (λ ds. Environment (declarations ds)) c.self.view_is c.self.invariant.0)
    c.requires.0 (term.meaning c.args.t.now) c.requires.1 c.requires.2)
