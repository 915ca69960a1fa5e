use Rattle.vern_parse.specs.Meaning.{expression}
use Rattle.term_core.specs.Formula.{meaning}
use Rattle.tac_base.specs.Sites.{env_of, goal_at}
use Rattle.tac_core.proofs.Forms.{formula_sorted}
use Rattle.tac_core.proofs.assert.assert.Goals as goal

pub asserted-requires-clause-formed : goal.asserted-requires-clause-formed
asserted-requires-clause-formed c = formula_sorted (env_of c.args.site.now) c.requires.environment (goal_at c.args.site.now).slots (expression c.args.raw.now)
    (meaning c.in-Ok.a) c.requires.formed.0 c.in-Ok.ensures.0
