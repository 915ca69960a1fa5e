use Rattle.std.proofs.Common.{length, sym}
use Rattle.match_core.specs.Tables.{table}
use Rattle.match_core.proofs.Patterns.{lengths_differ}
use Rattle.match_core.proofs.matching.+match_term.Goals as goal

pub match_terms-returns-then-patterns-targets : goal.match_terms-returns-then-patterns-targets
match_terms-returns-then-patterns-targets t c = sym (lengths_differ
    (length c.args.found.now) c.args.binders c.args.further c.args.patterns.now c.args.targets.now (table c.args.found.now)
    (λ e. c.if-patterns-targets.true e))
