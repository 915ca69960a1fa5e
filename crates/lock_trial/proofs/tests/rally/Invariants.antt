use Rattle.lock_trial.specs.Noting.{IsIdle, Keeps}
use Rattle.lock_trial.proofs.tests.rally.Given as goal

abbrev pub invariant-loop-round : goal.invariant-loop-round
invariant-loop-round g l = IsIdle l.lock l.initial.seat.view.number l.seat × Keeps l.initial.seat.view l.seat.view
