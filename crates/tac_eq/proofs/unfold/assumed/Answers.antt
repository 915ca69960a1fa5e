use Rattle.fol_theory.specs.Contexts.{variables}
use Rattle.fol_theory.specs.Slots.{entries}
use Rattle.fol_theory.specs.Substitution.{shift}
use Rattle.term_core.specs.Formula.{meaning}
use Rattle.evidence_core.proofs.Starting.{hypothesis_formed}
use Rattle.tac_base.specs.Sites.{env_of, goal_at}
use Rattle.tac_eq.proofs.unfold.assumed.Goals as goal

pub shifted-requires : goal.shifted-requires
shifted-requires c =
    let g = goal_at c.args.site.now in (
      env_of c.args.site.now,
      variables (entries g.slots),
      hypothesis_formed (env_of c.args.site.now) (entries g.slots) c.requires.ready.formed.0 c.args.number
          (shift 0 c.in-Some.newer (meaning c.in-Some.a.now)) (rw c.in-Some.is at c.in_ok-hypothesis.ensures.numbered),
      c.requires.ready.counted,
    )
