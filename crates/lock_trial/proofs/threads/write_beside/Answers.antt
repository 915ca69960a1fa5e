use Rattle.std.proofs.Common.{◌≡◌, ◌+◌, ◌<◌, subst, sym, ap, ◌∙◌, arith}
use Rattle.doc_lock.specs.Lists.{Each}
use Rattle.lock_trial.specs.Noting.{EachWriter, IsDone, notes_by}
use Rattle.lock_trial.specs.declared.notes.Note.{Note}
use Rattle.lock_trial.proofs.Joined.{seats_wrote, written_back}
use Rattle.lock_trial.proofs.threads.write_beside.Goals as goal

pub gather-others_wrote-requires-clause-others : goal.gather-others_wrote-requires-clause-others
gather-others_wrote-requires-clause-others g c = (
  c.args.notes,
  written_back (EachWriter (IsDone c.args.notes c.in-Ok.lock)) c.deal.new.writers.len c.write_all-first_wrote.new.writers
      c.deal.new.writers.items (omega arith) (omega arith) c.write_all-first_wrote.ensures.others,
)

pub returns-clause-writers : goal.returns-clause-writers
returns-clause-writers g c = let made : c.gather-others_wrote.new.seat.view.made ≡ c.args.writers + 1 =
    c.gather-others_wrote.ensures.same.0 ∙ (c.write_all-first_wrote.ensures.same.2 ∙ c.deal.ensures.made) in
    subst (λ m. Each (λ (e : Note). e.by < m) c.close-written.result.notes.items) made c.close-written.ensures.ends.1

pub returns-clause-written : goal.returns-clause-written
returns-clause-written g c = let v = c.gather-others_wrote.new.seat.view in let e = c.close-written.ensures.ends.0 in
    let made : v.made ≡ c.args.writers + 1 = c.gather-others_wrote.ensures.same.0
    ∙ (c.write_all-first_wrote.ensures.same.2 ∙ c.deal.ensures.made) in
    let zeroth : v.number ≡ 0 = c.gather-others_wrote.ensures.first.1 in
    let mine : v.mine ≡ notes_by v.number c.args.notes = c.gather-others_wrote.ensures.same.2
    ∙ (c.in_ok-first_wrote.ensures.written ∙ ap (λ k. notes_by k c.args.notes) (c.write_all-first_wrote.ensures.first.1 ∙ sym zeroth))
    in
    let done = written_back (EachWriter (IsDone c.args.notes c.in-Ok.lock)) c.deal.new.writers.len c.write_all-first_wrote.new.writers
    c.deal.new.writers.items (omega arith) (omega arith) c.write_all-first_wrote.ensures.others in
    λ by lt. seats_wrote c.args.notes by c.close-written.result.notes.items v zeroth e.own mine c.gather-others_wrote.ensures.all e.joined
    (c.in_ok-others_wrote.ensures.written c.args.notes done) (omega arith)
