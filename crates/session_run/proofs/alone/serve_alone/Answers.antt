use Rattle.std.proofs.Common.{◌≡◌, ℕ, List, Option, ap, ◌∙◌, subst}
use Rattle.std.specs.Io.KnownBytes.{Appends}
use Rattle.stm_base.specs.Output.{Output}
use Rattle.session_run.specs.Closing.{rendered}
use Rattle.session_run.specs.Headline.{Call, IsSession}
use Rattle.session_run.specs.Serving.{between}
use Rattle.session_run.proofs.Concluded.{answered-clean, closed-some}
use Rattle.session_run.proofs.alone.serve_alone.Goals as goal

pub returns-clause-session : goal.returns-clause-session
returns-clause-session g c =
    let K = g.K.Sink in
    let S = g.S.Source in
    let goes = c.serve_party-service.ensures.goes_on in
    let began = c.in-Ok.ensures.output in
    let end = c.conclude.result in
    let written = goes.written ∙ ap (λ (o : Output). o.first_written) began in
    let faults = goes.faults ∙ ap (λ (o : Output). o.first_faults) began in
    subst (λ (p : Option (List ℕ) × ℕ). let call : Call = record {
      left_before = S.left c.args.source.now;
      left_after = S.left c.serve_party-service.new.source;
      read_faults_before = S.faults c.args.source.now;
      read_faults_after = S.faults c.serve_party-service.new.source;
      written_before = p.0;
      written_after = K.written end.sink;
      write_faults_before = p.1;
      write_faults_after = K.faults end.sink;
      status = end.status;
      taken = end.taken;
      at_end = end.at_end;
      history = end.history.items;
    } in IsSession call) (λ i. (written i, faults i))
    (c.conclude.ensures.session
    (between (S.left c.args.source.now) (S.left c.serve_party-service.new.source) (S.faults c.args.source.now)
    (S.faults c.serve_party-service.new.source)) c.serve_party-service.ensures.served)

pub returns-clause-whole : goal.returns-clause-whole
returns-clause-whole g c =
    let K = g.K.Sink in
    let goes = c.serve_party-service.ensures.goes_on in
    let began = c.in-Ok.ensures.output in
    let end = c.conclude.result in
    let service = c.serve_party-service in
    let written = goes.written ∙ ap (λ (o : Output). o.first_written) began in
    let faults = goes.faults ∙ ap (λ (o : Output). o.first_faults) began in
    λ answered. subst (λ (p : Option (List ℕ) × ℕ). (K.faults end.sink ≡ p.1) × Appends p.0 (K.written end.sink) (rendered end.history.items))
    (λ i. (written i, faults i))
    (c.conclude.ensures.clean (answered-clean service.result.stop service.new.party.output.failed end.status c.conclude.ensures.status
    answered service.ensures.clean))

pub returns-clause-untouched_source : goal.returns-clause-untouched_source
returns-clause-untouched_source g c = λ e. closed-some c.conclude.result.history.items _ c.conclude.ensures.closed e

pub returns-clause-untouched_sink : goal.returns-clause-untouched_sink
returns-clause-untouched_sink g c = λ e. closed-some c.conclude.result.history.items _ c.conclude.ensures.closed e
