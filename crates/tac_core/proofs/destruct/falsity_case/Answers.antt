use Rattle.tac_base.specs.Sites.{env_of, goal_at}
use Rattle.tac_core.proofs.Destructs.{falsity_answers, falsity_refused}
use Rattle.tac_core.proofs.destruct.falsity_case.Goals as goal

pub returns-in-Err : goal.returns-in-Err
returns-in-Err c = λ met s. falsity_refused (env_of c.args.site.now) (goal_at c.args.site.now) c.args.site.now.variables
    c.args.evidence.now met s c.requires.ready c.requires.given c.requires.head c.in-Err.fault (c.in-Err.ensures met s)

pub returns-in_ok-opening-in-Ok : goal.returns-in_ok-opening-in-Ok
returns-in_ok-opening-in-Ok c = λ met s. falsity_answers (env_of c.args.site.now) (goal_at c.args.site.now) c.args.site.now.variables
    c.args.evidence.now met s c.requires.ready c.requires.given c.requires.head c.in_ok-opening-in-Ok.opening (c.in-Ok.ensures met s)
    c.in_ok-opening-in-Ok.ensures
