use Rattle.std.proofs.Common.{length, sym}
use Rattle.env_theory.specs.Normal.{normal}
use Rattle.env_core.specs.Meaning.{declarations}
use Rattle.term_core.specs.Formula.{meaning}
use Rattle.strip_core.specs.Drafts.{drafted}
use Rattle.strip_core.proofs.Sized.{none_smaller}
use Rattle.strip_core.proofs.target.Target.terms.Goals as goal

pub returns-then-is_larger : goal.returns-then-is_larger
returns-then-is_larger c =
    sym (none_smaller (length (drafted c.args.draft.now).sorts) (normal (declarations c.args.env.now) (meaning c.args.draft.now.rest))
    (meaning c.args.self.now.formula) _ _ _ _ c.requires.measured.0 c.requires.measured.1 c.formula_size-size.ensures.nodes
    c.formula_size-size.ensures.height (c.is_larger.ensures c.if-is_larger.true))
