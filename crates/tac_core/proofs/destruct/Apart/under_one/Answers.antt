use Rattle.std.proofs.Common.{rules}
use Rattle.tac_base.specs.Sites.{env_of, goal_at}
use Rattle.tac_core.proofs.Destructs.{lifted}
use Rattle.tac_core.proofs.destruct.Apart.under_one.Goals as goal

pub shifted-requires : goal.shifted-requires
shifted-requires c =
    let s = c.args.self.now.site.now in
    lifted (env_of s) (goal_at s) s.variables c.in_ok-variables.variables c.requires.ready (search rules)
