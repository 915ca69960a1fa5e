use Rattle.std.proofs.Common.{◌≡◌, ℕ, vec_len, IfOk}
use Rattle.doc_lock.specs.Lists.{Each}
use Rattle.lock_trial.specs.Noting.{EachWriter, IsDone, IsIdle, notes_by}
use Rattle.lock_trial.proofs.Joined.{HasFrom}
use Rattle.lock_trial.proofs.threads.gather.Given as goal

abbrev pub invariant-loop-writer : goal.invariant-loop-writer
invariant-loop-writer l =
    record {
      first : IsIdle l.lock 0 l.seat;
      done : (n : ℕ) → EachWriter (IsDone n l.lock) l.initial.writers.items → EachWriter (IsDone n l.lock) l.writers.items;
      has : HasFrom (vec_len l.writers) l.seat.view;
      made : l.seat.view.made ≡ l.initial.seat.view.made;
      origin : l.seat.view.origin ≡ l.initial.seat.view.origin;
      mine : l.seat.view.mine ≡ l.initial.seat.view.mine;
      written : IfOk l.all (λ _. (n : ℕ) → EachWriter (IsDone n l.lock) l.initial.writers.items
          → Each (λ p. p.mine ≡ notes_by p.number n) l.seat.view.joined);
    }

abbrev pub decreases-loop-writer : goal.decreases-loop-writer
decreases-loop-writer l = vec_len l.writers
