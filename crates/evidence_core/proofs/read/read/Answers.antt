use Rattle.vern_parse.specs.Meaning.{expression}
use Rattle.tactic_theory.specs.Typing.{evidence_of}
use Rattle.evidence_core.specs.Meaning.{so_far}
use Rattle.evidence_core.specs.Places.{context_of, env_of}
use Rattle.evidence_core.proofs.Whole.{finished}
use Rattle.evidence_core.proofs.read.read.Goals as goal

pub returns : goal.returns
returns c = finished (env_of c.args.place.now) (context_of c.args.place.now)
    (evidence_of (env_of c.args.place.now) (context_of c.args.place.now) (expression c.args.raw.now)) (so_far c.in_ok-draft.draft)
    c.finish.result c.finish.ensures.made c.finish.ensures.err c.in_ok-draft.ensures
