use Rattle.std.proofs.Common.{drop}
use Rattle.tactic_theory.specs.Evidence.{Evidence}
use Rattle.evidence_core.specs.Meaning.{so_far}
use Rattle.evidence_core.specs.Places.{context_of, env_of}
use Rattle.evidence_core.specs.Showings.{Comes}
use Rattle.evidence_core.proofs.Arguments.{Remains}
use Rattle.evidence_core.proofs.apply.+show.Given as goal

abbrev pub invariant-apply_all-loop-y : goal.invariant-apply_all-loop-y
invariant-apply_all-loop-y l = (e : Evidence) → Comes (env_of l.place) (context_of l.place) e (so_far l.initial.draft)
    → Remains (env_of l.place) (context_of l.place) e (so_far l.draft) (drop l.y-index l.ys) l.ys
