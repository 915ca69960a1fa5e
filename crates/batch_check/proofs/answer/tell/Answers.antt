use Rattle.std.proofs.Common.{ℕ, List, Option, sym, ap, ◌∙◌, subst}
use Rattle.stm_base.specs.Counts.{Rose}
use Rattle.stm_base.specs.Output.{Output, begun}
use Rattle.batch_check.specs.Batch.{is_clean_with}
use Rattle.batch_check.specs.Puts.{Puts}
use Rattle.batch_check.specs.Report.{owed}
use Rattle.batch_check.specs.Run.{Findings, report_of}
use Rattle.batch_check.specs.Ends.{IsAnsweredSo, between, status_of}
use Rattle.batch_check.proofs.Answering.{answered, first_kept}
use Rattle.batch_check.proofs.answer.tell.Goals as goal

pub returns : goal.returns
returns g c = λ text found.
    let K = g.K.Sink in
    let written = K.written c.args.sink in
    let faults = K.faults c.args.sink in
    let new = c.put_report-put.new.out in
    let put = c.put_report-put.result in
    let clean = c.is_clean.result in
    let end = c.into_sink.ensures in
    let puts : Puts put (begun written faults) (owed text) new =
    subst (λ (o : Output). Puts put o (owed text) new) c.new-out.ensures
    (subst (λ (bytes : List ℕ). Puts put c.new-out.result bytes new) (ap report_of found) c.put_report-put.ensures) in
    subst (λ (p : Option (List ℕ) × ℕ). IsAnsweredSo (between written p.0 faults p.1) text c.status_of-status.result)
    (λ i. (sym end.written i, sym end.faults i))
    (answered put written faults new text clean c.status_of-status.result puts
    (λ e. subst (λ n. Rose n new.faults) (first_kept put (begun written faults) new (owed text) puts) (end.cause e))
    (c.is_clean.ensures ∙ ap (λ (f : Findings). is_clean_with f.faults f.stop) found)
    (c.status_of-status.ensures ∙ ap (λ q. status_of put q clean) c.failed.ensures.value))
