use Rattle.env_core.specs.Meaning.{declarations}
use Rattle.term_core.specs.Formula.{meaning}
use Rattle.strip_core.specs.Drafts.{drafted}
use Rattle.strip_core.proofs.Stripping.{first_stands}
use Rattle.strip_core.proofs.find.equation.Goals as goal

pub strip_to_equation-requires-clause-stands : goal.strip_to_equation-requires-clause-stands
strip_to_equation-requires-clause-stands c = (
  c.args.variables,
  first_stands (declarations c.args.env.now) c.requires.0 c.args.variables (meaning c.args.a.now) (drafted c.in_ok-draft.draft)
      c.in_ok-draft.ensures.none c.requires.1 c.requires.2,
)

pub finish-requires-clause-stands : goal.finish-requires-clause-stands
finish-requires-clause-stands c = (
  declarations c.args.env.now,
  c.in_ok-strip_to_equation.ensures.stands c.args.variables
      (first_stands (declarations c.args.env.now) c.requires.0 c.args.variables (meaning c.args.a.now) (drafted c.in_ok-draft.draft)
      c.in_ok-draft.ensures.none c.requires.1 c.requires.2),
)
