use Rattle.env_core.specs.Meaning.{declarations}
use Rattle.term_core.specs.Formula.{meaning}
use Rattle.strip_core.specs.Drafts.{drafted}
use Rattle.strip_core.proofs.Found.{answer_stands}
use Rattle.strip_core.proofs.draft.Draft.advance.Goals as goal

pub returns-clause-stands : goal.returns-clause-stands
returns-clause-stands c = λ n w.
    answer_stands (declarations c.args.env.now) c.environment.ensures n (drafted c.args.self.now) (drafted c.strip.new.self)
    (meaning c.in_ok-head.head) c.strip.result c.in_ok-head.ensures c.strip.ensures.turns w
