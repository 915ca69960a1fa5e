use Rattle.std.proofs.Common.{rules, ◌≡◌, ℕ, ◌+◌, ◌∷◌, ◌++◌, vec_len, sym, ◌∙◌, subst, arith, IfOk}
use Rattle.doc_lock.specs.Lists.{Each}
use Rattle.doc_lock.specs.Views.{folded}
use Rattle.doc_lock.specs.declared.view.View.{View}
use Rattle.lock_trial.specs.Noting.{EachWriter, IsDone, notes_by}
use Rattle.lock_trial.specs.declared.notes.Note.{Note}
use Rattle.lock_trial.proofs.Joined.{HasFrom, has_more, all_left, last_has, all_wrote}
use Rattle.lock_trial.proofs.threads.gather.Goals as goal

pub join_back-requires-clause-lock : goal.join_back-requires-clause-lock
join_back-requires-clause-lock c = let n : ℕ = c.requires.others.0 in let l = c.args.lock.now in
    let done = last_has (λ i w. IsDone n l (i + 1) w) c.loop-writer.writers.items c.pop.new.self.items c.in-Some.writer
    c.in-Some.ensures.items (c.loop-writer.invariant.done n c.requires.others.1) in
    (c.loop-writer.invariant.first.0, done.0.0)

pub join_back-requires-clause-free : goal.join_back-requires-clause-free
join_back-requires-clause-free c = let n : ℕ = c.requires.others.0 in let l = c.args.lock.now in
    let done = last_has (λ i w. IsDone n l (i + 1) w) c.loop-writer.writers.items c.pop.new.self.items c.in-Some.writer
    c.in-Some.ensures.items (c.loop-writer.invariant.done n c.requires.others.1) in
    (c.loop-writer.invariant.first.2, done.0.2)

pub join_back-requires-clause-other : goal.join_back-requires-clause-other
join_back-requires-clause-other c = let n : ℕ = c.requires.others.0 in let l = c.args.lock.now in
    let done = last_has (λ i w. IsDone n l (i + 1) w) c.loop-writer.writers.items c.pop.new.self.items c.in-Some.writer
    c.in-Some.ensures.items (c.loop-writer.invariant.done n c.requires.others.1) in
    let number = done.0.1 in λ zeroth. absurd (omega arith)

pub loop-writer-preserved : goal.loop-writer-preserved
loop-writer-preserved c = let inv = c.loop-writer.invariant in let l = c.args.lock.now in let items = c.in-Some.ensures.items in
    let len = c.in-Some.ensures.len in let writer = c.in-Some.writer in
    let done = λ (n : ℕ) (h : EachWriter (IsDone n l) c.args.writers.now.items).
    last_has (λ i w. IsDone n l (i + 1) w) c.loop-writer.writers.items c.pop.new.self.items writer items (inv.done n h) in
    let number : writer.seat.view.number ≡ vec_len c.pop.new.self + 1 = (done c.requires.others.0 c.requires.others.1).0.1
    ∙ omega arith in
    let v : View Note ℕ = c.loop-writer.seat.view in let w : View Note ℕ = writer.seat.view in
    record {
      first = search rules;
      done = λ n h. all_left (λ i w. IsDone n l (i + 1) w) c.loop-writer.writers.items c.pop.new.self.items writer items (inv.done n h);
      has = subst (HasFrom (vec_len c.pop.new.self)) (sym c.join_back.ensures.joined)
          (has_more (vec_len c.pop.new.self) v.made (folded w) v.joined w.joined number (λ k low high. inv.has k (omega arith) high));
      made = search rules;
      origin = search rules;
      mine = search rules;
      written = subst (λ (p : View Note ℕ). IfOk c.and-all.result (λ _. (n : ℕ) → EachWriter (IsDone n l) c.args.writers.now.items
          → Each (λ q. q.mine ≡ notes_by q.number n) p.joined)) (sym c.join_back.ensures.joined)
          (subst (λ r. IfOk r (λ _. (n : ℕ) → EachWriter (IsDone n l) c.args.writers.now.items
          → Each (λ q. q.mine ≡ notes_by q.number n) (folded w ∷ (v.joined ++ w.joined)))) (sym c.and-all.ensures)
          (all_wrote c.loop-writer.all writer.wrote (λ n. EachWriter (IsDone n l) c.args.writers.now.items) v w inv.written
          (λ n h. ((done n h).1, (done n h).2))));
    }

pub returns-clause-all : goal.returns-clause-all
returns-clause-all c = let none = c.in_default.ensures.cases.0 in λ n low high. c.loop-writer.invariant.has n (omega arith) high
