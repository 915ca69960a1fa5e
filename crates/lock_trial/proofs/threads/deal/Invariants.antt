use Rattle.std.proofs.Common.{◌≡◌, ◌+◌, vec_len, vec_capacity}
use Rattle.lock_trial.specs.Noting.{EachWriter, IsFresh, IsIdle, IsReady}
use Rattle.lock_trial.proofs.threads.deal.Given as goal

abbrev pub invariant-loop : goal.invariant-loop
invariant-loop l =
    record {
      first : IsIdle l.lock 0 l.seat;
      fresh : IsFresh l.seat.view;
      made : l.seat.view.made ≡ l.counter + 1;
      len : vec_len l.writers ≡ l.counter;
      ready : EachWriter (IsReady l.lock) l.writers.items;
      room : vec_capacity l.writers ≡ vec_capacity l.initial.writers;
      origin : l.seat.view.origin ≡ l.initial.seat.view.origin;
    }
