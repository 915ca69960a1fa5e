use Rattle.std.proofs.Common.{◌∙◌}
use Rattle.tac_base.specs.Openings.{opening}
use Rattle.tac_base.specs.Sites.{env_of, goal_at}
use Rattle.tac_core.proofs.Introductions.{first_is, introduced_at}
use Rattle.tac_core.proofs.named.intro_as.Goals as goal

pub returns-in-Ok-clause-state : goal.returns-in-Ok-clause-state
returns-in-Ok-clause-state c =
    let w = c.in-Ok.ensures in
    λ g gs e. introduced_at _ (env_of c.in_ok-site-in-Some.site) g (goal_at c.in_ok-site-in-Some.site) gs _ c.args.given.now.text w.0
    (opening c.in-Ok.opening) c.refine_with.result c.in_ok-site-in-Some.ensures.env (c.in_ok-site-in-Some.ensures.goal ∙ first_is _ g _ gs c.in-Some.ensures e) e
    c.in_ok-site-in-Some.ensures.ready.formed w.1 w.2 (λ ks k. c.refine_with.ensures.state ks k)
