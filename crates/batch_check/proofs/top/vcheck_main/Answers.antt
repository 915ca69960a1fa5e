use Rattle.std.proofs.Common.{List, ℕ, true, refl, subst, rules}
use Rattle.batch_check.specs.Headline.{Call}
use Rattle.batch_check.specs.Ends.{EndsSo, between, IsAnsweredSo}
use Rattle.batch_check.specs.declared.input.InputEnd.{InputEnd}
use Rattle.batch_check.proofs.Concluded.{met, no_words}
use Rattle.batch_check.proofs.top.vcheck_main.Goals as goal

pub returns-in-Met-clause-batch : goal.returns-in-Met-clause-batch
returns-in-Met-clause-batch g c =
    let S = g.S.Source in
    let K = g.K.Sink in
    let input = c.read_input-text.result in
    let end = c.answer_text-status.result in
    let text = input.text.items in
    let source = between (S.left c.args.source.now) (S.left c.read_input-text.new.source) (S.faults c.args.source.now)
    (S.faults c.read_input-text.new.source) in
    let sink = between (K.written c.args.sink) (K.written end.sink) (K.faults c.args.sink) (K.faults end.sink) in
    let call : Call = record {
      left_before = source.before;
      left_after = source.after;
      read_faults_before = source.faults_before;
      read_faults_after = source.faults_after;
      written_before = sink.before;
      written_after = sink.after;
      write_faults_before = sink.faults_before;
      write_faults_after = sink.faults_after;
      status = end.status;
      taken = input.taken;
      at_end = true;
    } in
    let ends = subst (λ (e : InputEnd). EndsSo e source text input.taken) c.in-Met.is c.read_input-text.ensures.ends in
    met c.args.words.now call text (record {
      none = no_words c.args.words.now (search rules);
      at_end = refl;
      taken = c.read_input-text.ensures.taken;
      limit = c.read_input-text.ensures.limit;
      no_fault = ends.0;
      whole = ends.1;
      answered = subst (λ (t : List ℕ). IsAnsweredSo sink t end.status) c.as_slice.ensures.value c.answer_text-status.ensures;
    })
