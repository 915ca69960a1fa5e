use Rattle.std.proofs.Common.{◌≡◌}
use Rattle.lock_trial.specs.Noting.{IsIdle, Keeps, notes_by}
use Rattle.lock_trial.proofs.threads.write_notes.Given as goal

abbrev pub invariant-loop-what : goal.invariant-loop-what
invariant-loop-what g l =
    record {
      idle : IsIdle l.lock l.initial.seat.view.number l.seat;
      same : Keeps l.initial.seat.view l.seat.view;
      written : l.seat.view.mine ≡ notes_by l.initial.seat.view.number l.what;
    }
