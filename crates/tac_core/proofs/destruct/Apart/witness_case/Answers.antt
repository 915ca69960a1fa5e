use Rattle.term_core.specs.Context.{slots}
use Rattle.term_core.specs.Formula.{meaning}
use Rattle.tac_base.specs.Sites.{env_of, goal_at}
use Rattle.tac_core.proofs.Destructs.{witness_answers, witness_refused}
use Rattle.tac_core.proofs.destruct.Apart.witness_case.Goals as goal

pub returns-in-Err : goal.returns-in-Err
returns-in-Err c =
    let p = c.args.self.now in
    λ met s. witness_refused (env_of p.site.now) (goal_at p.site.now) p.site.now.variables p.evidence met s (slots p.kept) c.requires.apart
    p.first p.second c.args.sort.now c.args.name.now (meaning c.args.body.now) c.requires.head c.in-Err.fault (c.in-Err.ensures met s)

pub returns-in_ok-opening-in-Ok : goal.returns-in_ok-opening-in-Ok
returns-in_ok-opening-in-Ok c =
    let p = c.args.self.now in
    λ met s. witness_answers (env_of p.site.now) (goal_at p.site.now) p.site.now.variables p.evidence met s (slots p.kept) c.requires.apart
    p.first p.second c.args.sort.now c.args.name.now (meaning c.args.body.now) c.requires.head c.in_ok-opening-in-Ok.opening (c.in-Ok.ensures met s)
    c.in_ok-opening-in-Ok.ensures
