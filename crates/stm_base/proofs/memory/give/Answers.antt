use Rattle.std.proofs.Common.{rules}
use Rattle.stm_base.proofs.Puts.{copied}
use Rattle.stm_base.proofs.memory.give.Goals as goal

pub returns-clause-front : goal.returns-clause-front
returns-clause-front c = copied c.args.at c.min-n.result c.args.bytes.now c.copy_from_slice.new.self _ (search rules) (search rules)
