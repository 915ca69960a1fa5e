use Rattle.std.proofs.Common.{arith}
use Rattle.term_core.specs.Term.{meaning}
use Rattle.env_core.specs.Meaning.{declarations}
use Rattle.tac_eq.proofs.Equations.{normal_fits}
use Rattle.tac_eq.proofs.equation.is_same_term.Goals as goal

pub same_terms-requires-clause-first_indices : goal.same_terms-requires-clause-first_indices
same_terms-requires-clause-first_indices c = normal_fits (declarations c.args.env.now) c.environment.ensures (meaning c.args.t.now) c.args.variables
    c.requires.first (omega arith)

pub same_terms-requires-clause-second_indices : goal.same_terms-requires-clause-second_indices
same_terms-requires-clause-second_indices c = normal_fits (declarations c.args.env.now) c.environment.ensures (meaning c.args.u.now) c.args.variables
    c.requires.second (omega arith)
