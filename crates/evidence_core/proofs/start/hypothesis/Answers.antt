use Rattle.fol_theory.specs.Contexts.{variables}
use Rattle.fol_theory.specs.Slots.{entries}
use Rattle.fol_theory.specs.Substitution.{shift}
use Rattle.term_core.specs.Formula.{meaning}
use Rattle.evidence_core.specs.Places.{context_of, env_of}
use Rattle.evidence_core.proofs.Starting.{hypothesis_formed}
use Rattle.evidence_core.proofs.start.hypothesis.Goals as goal

pub shifted-requires : goal.shifted-requires
shifted-requires c = (
  env_of c.args.place.now,
  variables (entries (context_of c.args.place.now)),
  hypothesis_formed (env_of c.args.place.now) (entries (context_of c.args.place.now)) c.requires.ready.formed c.args.number
      (shift 0 c.in-Some.newer (meaning c.in-Some.formula.now)) (rw c.in-Some.is at c.in_ok-hypothesis.ensures.numbered),
  c.requires.ready.counted,
)
