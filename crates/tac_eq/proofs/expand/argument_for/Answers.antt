use Rattle.std.proofs.Common.{sym, ◌∙◌}
use Rattle.env_core.proofs.Filling.{argument_at, argument_beyond}
use Rattle.env_core.proofs.Results.{if_ok}
use Rattle.tac_eq.proofs.expand.argument_for.Goals as goal

pub returns-then-variable-ts : goal.returns-then-variable-ts
returns-then-variable-ts c = if_ok c.copy.result
    (λ t e. e ∙ sym (argument_at c.args.ts.now c.args.variable c.index-ts-ts.result c.if-variable-ts.true c.index-ts-ts.is)) c.copy.ensures

pub returns-else-variable-ts : goal.returns-else-variable-ts
returns-else-variable-ts c = if_ok c.closed.result
    (λ t e. e ∙ sym (argument_beyond c.args.ts.now c.args.variable c.if-variable-ts.false)) c.closed.ensures
