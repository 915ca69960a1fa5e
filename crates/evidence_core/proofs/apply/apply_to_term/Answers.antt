use Rattle.fol_theory.specs.Contexts.{variables}
use Rattle.fol_theory.specs.Slots.{entries}
use Rattle.term_core.specs.Formula.{meaning}
use Rattle.term_core.specs.Term as term
use Rattle.vern_parse.specs.Meaning.{expression}
use Rattle.evidence_core.specs.Meaning.{so_far}
use Rattle.evidence_core.specs.Places.{context_of, env_of}
use Rattle.evidence_core.proofs.Steps.{argument_sorted, term_stands}
use Rattle.evidence_core.proofs.Formed.{body_formed}
use Rattle.evidence_core.proofs.apply.apply_to_term.Goals as goal

pub put_term-requires : goal.put_term-requires
put_term-requires c = (
  env_of c.args.place.now,
  variables (entries (context_of c.args.place.now)),
  body_formed (env_of c.args.place.now) c.requires.ready.environment (context_of c.args.place.now) c.requires.ready.formed
      c.requires.shown.0 (so_far c.args.draft.now) c.requires.shown.1 c.args.sort.now c.requires.head.0 (meaning c.args.body.now)
      c.requires.head.1,
  argument_sorted (env_of c.args.place.now) (context_of c.args.place.now) (expression c.args.y.now) c.args.sort.now
      (term.meaning c.in_ok-t.t) c.in_ok-t.ensures,
  c.requires.ready.counted,
)

pub returns : goal.returns
returns c = λ e k. term_stands (env_of c.args.place.now) (context_of c.args.place.now) e (so_far c.args.draft.now) k
    (expression c.args.y.now) c.args.sort.now c.requires.head.0 (meaning c.args.body.now) (term.meaning c.in_ok-t.t)
    (so_far c.put_term.new.self) c.requires.head.1 c.in_ok-t.ensures c.in_ok-put_term.ensures
