use Rattle.vern_parse.specs.Meaning.{expression}
use Rattle.tac_base.specs.Sites.{env_of, goal_at}
use Rattle.tac_core.proofs.Forms.{term_sorted}
use Rattle.tac_core.proofs.form.exists.Goals as goal

pub exists_head-requires-clause-term : goal.exists_head-requires-clause-term
exists_head-requires-clause-term c = term_sorted (env_of c.args.site.now) (goal_at c.args.site.now).slots (expression c.args.raw.now)
    _ _ c.in_ok-t.ensures
