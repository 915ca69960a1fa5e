use Rattle.std.proofs.Common.{◌≡◌, ◌+◌, map, None, ap, subst}
use Rattle.vern_sentence.specs.Trees.{Sentence}
use Rattle.vern_step.specs.declared.kind.Kind.{Kind}
use Rattle.vern_step.specs.Parsed.{kind_read}
use Rattle.script_theory.specs.Sentences.{one}
use Rattle.step_core.specs.Standing.{is_open, state_of}
use Rattle.step_core.specs.Verdicts.{verdict_of}
use Rattle.batch_check.specs.Numbers.{FIRST_ID}
use Rattle.batch_check.specs.Batch.{refusal_of}
use Rattle.batch_check.specs.Run.{fault_in, progress_of}
use Rattle.batch_check.proofs.Taking.{checked}
use Rattle.batch_check.proofs.run.Run.check.Goals as goal

pub returns : goal.returns
returns c = λ at x ps e.
    let run = c.args.self in
    let after = state_of c.in_ok-state.state in
    let v = verdict_of c.in_ok-state.verdict in
    let finds = c.in_ok-state.ensures in
    let same : finds.0 ≡ x = cc (finds.1, e) in
    checked (progress_of run) at x ps after v (map fault_in c.in_ok-faults.faults.items)
    (subst (λ (k : Kind). refusal_of (is_open (state_of run.state)) k run.count ≡ None) (ap kind_read e) c.requires)
    (subst (λ (y : Sentence). one (state_of run.state) (FIRST_ID + run.count) y ≡ (after, v)) same finds.2) c.in_ok-faults.ensures
