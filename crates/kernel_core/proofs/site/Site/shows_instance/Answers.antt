use Rattle.std.proofs.Common.{sym, subst}
use Rattle.term_core.specs.Formula.{meaning}
use Rattle.term_core.specs.Term as term
use Rattle.env_theory.specs.Typing.{WellFormed}
use Rattle.kernel_core.specs.Sites.{environment, sorts_at}
use Rattle.kernel_core.proofs.Asked.{instance_formed}
use Rattle.kernel_core.proofs.site.Site.shows_instance.Goals as goal

pub instantiate-requires : goal.instantiate-requires
instantiate-requires c = (
  environment c.args.self.now,
  sorts_at c.args.self.now,
  c.requires.formed.0,
  c.requires.formed.1,
  c.requires.formed.2,
  c.requires.ready.1,
)

pub is_goal-requires-clause-formed : goal.is_goal-requires-clause-formed
is_goal-requires-clause-formed c =
    let E = environment c.args.self.now in
    let V = sorts_at c.args.self.now in (
      V,
      subst (WellFormed E V) (sym c.in_ok-made.ensures) (instance_formed E V c.requires.formed.0 (meaning c.args.body.now)
          (term.meaning c.args.t.now) c.requires.formed.1 c.requires.formed.2),
      c.requires.ready.1,
    )
