use Rattle.std.proofs.Common.{true, false, length}
use Rattle.term_core.specs.Term.{meaning}
use Rattle.match_core.specs.Tables.{table}
use Rattle.match_core.proofs.Finds.{place_told}
use Rattle.match_core.proofs.places.is_instance.Goals as goal

pub returns-then-match_term-clause-found : goal.returns-then-match_term-clause-found
returns-then-match_term-clause-found c = place_told (length c.args.found.now) c.args.binders (meaning c.args.pattern.now)
    (meaning c.args.t.now) true c.match_term.new.found (table c.args.found.now) c.requires c.if-match_term.ensures

pub returns-clause-found : goal.returns-clause-found
returns-clause-found c = place_told (length c.args.found.now) c.args.binders (meaning c.args.pattern.now)
    (meaning c.args.t.now) false c.match_term.new.found (table c.args.found.now) c.requires c.if-match_term.ensures
