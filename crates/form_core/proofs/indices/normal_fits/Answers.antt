use Rattle.std.proofs.Common.{rules, ◌≤◌, ◌+◌, ◌^◌, arith}
use Rattle.term_core.specs.Formula.{meaning}
use Rattle.env_core.specs.Meaning.{declarations}
use Rattle.form_core.proofs.Depths.{normal_reach}
use Rattle.form_core.proofs.indices.normal_fits.Goals as goal

pub returns-clause-fits : goal.returns-clause-fits
returns-clause-fits c =
    let k : c.args.variables + c.in_ok-binders.binders ≤ 2 ^ 64 = search (rules, arith) in
    normal_reach (declarations c.args.env.now) c.environment.ensures (meaning c.args.a.now) c.args.variables
    c.in_ok-binders.binders c.requires c.in_ok-binders.ensures.binders k
