use Rattle.std.proofs.Common.{sym}
use Rattle.env_core.proofs.Filling.{argument_at, argument_beyond}
use Rattle.env_core.proofs.head.argument_of.Goals as goal

pub returns-then-index-len : goal.returns-then-index-len
returns-then-index-len c = sym (argument_at c.args.ts.now c.args.index c.index-ts-len.result c.if-index-len.true c.index-ts-len.is)

pub returns-else-index-len : goal.returns-else-index-len
returns-else-index-len c = sym (argument_beyond c.args.ts.now c.args.index c.if-index-len.false)
