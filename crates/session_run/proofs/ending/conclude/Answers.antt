use Rattle.std.proofs.Common.{List, ℕ, Option, false, refl, sym, ap, ◌∙◌, subst}
use Rattle.std.specs.Io.KnownBytes.{Appends}
use Rattle.stm_base.specs.Output.{IsPut, fresh}
use Rattle.doc_theory.specs.Histories.{Event, requests}
use Rattle.doc_core.specs.Histories.{Legal}
use Rattle.session_run.specs.Numbers.{LIVE_LIMIT}
use Rattle.session_run.specs.Closing.{is_closed, rendered}
use Rattle.session_run.specs.Headline.{Call}
use Rattle.session_run.specs.Serving.{Served}
use Rattle.session_run.specs.Statuses.{status_of}
use Rattle.session_run.proofs.Concluded.{concludes, stop-known, whole-put}
use Rattle.session_run.proofs.ending.conclude.Goals as goal

pub returns-clause-known : goal.returns-clause-known
returns-clause-known g c =
    let s = c.args.service in
    stop-known s.stop c.args.live.output.failed c.status_of-status.result
    (c.status_of-status.ensures ∙ ap (status_of s.stop) c.failed.ensures.value)

pub returns-clause-clean : goal.returns-clause-clean
returns-clause-clean g c =
    let o = c.args.live.output in
    let parts = c.into_parts-sink.ensures in
    λ e. (
      parts.faults ∙ parts.put.passed e,
      subst (λ (p : Option (List ℕ) × List Event). Appends o.first_written p.0 (rendered p.1))
          (λ i. (sym parts.written i, sym parts.history i))
          (whole-put o c.args.live.history parts.put e),
    )

pub returns-clause-session : goal.returns-clause-session
returns-clause-session g c =
    let K = g.K.Sink in
    let s = c.args.service in
    let o = c.args.live.output in
    let parts = c.into_parts-sink.ensures in
    let end = c.into_parts-sink.result in
    let same = sym parts.history in
    λ source served.
    let call : Call = record {
      left_before = source.left_before;
      left_after = source.left_after;
      read_faults_before = source.faults_before;
      read_faults_after = source.faults_after;
      written_before = o.first_written;
      written_after = K.written end.0;
      write_faults_before = o.first_faults;
      write_faults_after = K.faults end.0;
      status = c.status_of-status.result;
      taken = s.taken;
      at_end = s.at_end;
      history = end.1.items;
    } in
    concludes call s.stop false o (subst (λ h. Served source s (requests h) false) same served)
    (c.status_of-status.ensures ∙ ap (status_of s.stop) c.failed.ensures.value)
    (record {
      legal = subst (Legal LIVE_LIMIT) same parts.legal;
      closed = ap is_closed parts.history ∙ c.requires.closed;
      put = subst (λ h. IsPut (fresh o) (rendered h) o) same parts.put;
      cause = parts.cause;
      first_written = refl;
      written = parts.written;
      first_faults = refl;
      faults = parts.faults;
    })
