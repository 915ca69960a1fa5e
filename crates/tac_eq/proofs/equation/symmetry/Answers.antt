use Rattle.std.proofs.Common.{sym, ◌∙◌}
use Rattle.term_core.specs.Term.{meaning}
use Rattle.tac_base.specs.Openings.{opening}
use Rattle.tac_base.specs.Sites.{env_of, goal_at}
use Rattle.tac_eq.proofs.Equations.{left_over, by_symmetry}
use Rattle.tac_eq.proofs.equation.symmetry.Goals as goal

pub exchanged-requires : goal.exchanged-requires
exchanged-requires c = left_over (env_of c.args.site.now) (goal_at c.args.site.now) c.args.site.now.variables c.requires
    c.in-Equal.sort.now (meaning c.in-Equal.t.now) (meaning c.in-Equal.u.now) (sym (c.in-Equal.ensures ∙ c.in_ok-head.ensures))

pub returns-in-Equal : goal.returns-in-Equal
returns-in-Equal c = by_symmetry (env_of c.args.site.now) (goal_at c.args.site.now) c.args.site.now.variables c.requires
    c.in-Equal.sort.now (meaning c.in-Equal.t.now) (meaning c.in-Equal.u.now) (sym (c.in-Equal.ensures ∙ c.in_ok-head.ensures))
    (opening c.in_ok-made-in-Equal.made) c.in_ok-made-in-Equal.ensures
