use Rattle.std.proofs.Common.{drop, arith}
use Rattle.std.proofs.lemmas.Grind.{common_steps}
use Rattle.term_core.specs.Formula.{meaning}
use Rattle.vern_parse.specs.Meaning.{expression}
use Rattle.evidence_core.specs.Meaning.{so_far}
use Rattle.evidence_core.specs.Places.{context_of, env_of}
use Rattle.evidence_core.proofs.Steps.{proof_stands}
use Rattle.evidence_core.proofs.Refused.{other_refused}
use Rattle.evidence_core.proofs.Arguments.{one_taken, all_taken}
use Rattle.evidence_core.proofs.apply.+show.Goals as goal

pub apply_all-loop-y-preserved : goal.apply_all-loop-y-preserved
apply_all-loop-y-preserved t c = λ e k. one_taken (env_of c.args.place.now) (context_of c.args.place.now) e c.args.ys.now c.loop-y.y-index
    _ (so_far c.loop-y.draft) (so_far c.apply.new.draft) c.loop-y-test.true c.y-item.is (c.loop-y.invariant e k) c.in_ok-apply.ensures

pub apply_all-returns : goal.apply_all-returns
apply_all-returns t c = λ e k. all_taken (env_of c.args.place.now) (context_of c.args.place.now) e c.args.ys.now (so_far c.loop-y.draft)
    (drop c.loop-y.y-index c.args.ys.now) (grind (arith, common_steps)) (c.loop-y.invariant e k)

pub apply_head-returns-in_default : goal.apply_head-returns-in_default
apply_head-returns-in_default t c = λ e k. other_refused (env_of c.args.place.now) (context_of c.args.place.now) e
    (so_far c.args.draft.now) k (expression c.args.y.now) c.args.head.now (λ r x b q. c.in_default.not-All r x b q)
    (λ x b q. c.in_default.not-Imp x b q) c.requires.head

pub apply_to_proof-returns : goal.apply_to_proof-returns
apply_to_proof-returns t c = λ e k. proof_stands (env_of c.args.place.now) (context_of c.args.place.now) e (so_far c.args.draft.now) k
    (expression c.args.y.now) (meaning c.args.premise.now) (meaning c.args.conclusion.now) (so_far c.in_ok-given.given)
    (so_far c.put_proof.new.self) c.requires.head c.in_ok-given.ensures c.in_ok-put_proof.ensures
