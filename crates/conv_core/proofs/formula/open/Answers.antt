use Rattle.env_core.specs.Meaning.{declarations}
use Rattle.conv_core.proofs.Tops.{rigid_other}
use Rattle.conv_core.proofs.formula.open.Goals as goal

pub returns-in_default : goal.returns-in_default
returns-in_default c = rigid_other (declarations c.args.env.now) c.args.a.now (λ p ts e. c.in_default.not-Pred p ts e)
