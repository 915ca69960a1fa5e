use Rattle.std.proofs.Common.{[]}
use Rattle.env_core.specs.Meaning.{declarations}
use Rattle.vern_parse.specs.Meaning.{expression, name}
use Rattle.step_core.proofs.Stating.{stated_new}
use Rattle.step_core.proofs.lemma.stated.Goals as goal

pub formula_size-requires : goal.formula_size-requires
formula_size-requires c = (
  [],
  (stated_new (declarations c.args.env.now) (name c.args.x.now) (expression c.args.raw.now)
      c.environment.ensures c.in_ok-formula.formula c.in_ok-formula.ensures).1,
)

pub returns-in-None-clause-formed : goal.returns-in-None-clause-formed
returns-in-None-clause-formed c = (stated_new (declarations c.args.env.now) (name c.args.x.now) (expression c.args.raw.now)
    c.environment.ensures c.in_ok-formula.formula c.in_ok-formula.ensures).1
