use Rattle.std.proofs.Common.{sym, ◌∙◌, arith}
use Rattle.term_print.proofs.Scopes.{name_in, name_none}
use Rattle.term_print.proofs.scope.name_at.Goals as goal

pub returns-then-at-names : goal.returns-then-at-names
returns-then-at-names c = c.as_slice.ensures ∙ c.index-names-at.is ∙
    sym (name_in c.args.names.now c.args.index c.index-names-at.result (omega arith))

pub returns-else-at-names : goal.returns-else-at-names
returns-else-at-names c = c.as_slice-else-at-names.ensures ∙ sym (name_none c.args.names.now c.args.index (omega arith))
