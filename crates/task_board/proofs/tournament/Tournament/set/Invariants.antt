use Rattle.std.proofs.Common.{◌≡◌, ℕ, ◌*◌, ◌/◌, ◌<◌, ◌≤◌, ◌≢◌, length, slice_set}
use Rattle.std.specs.Prelude.{drop, ◌^◌}
use Rattle.task_board.specs.Trees.{Wins}
use Rattle.task_board.proofs.tournament.Tournament.set.Given as goal

abbrev pub invariant-loop-node : goal.invariant-loop-node
invariant-loop-node l = record {
  twice : length l.self-inside.nodes.items ≡ 2 * l.self-inside.places;
  few : l.self-inside.places < 2 ^ 62;
  some : 1 ≤ l.node;
  within : l.node < 2 * l.self-inside.places;
  leaves : drop l.self-inside.places l.self-inside.nodes.items ≡ slice_set l.fn.self l.place l.number;
  wins : (i : ℕ) → 1 ≤ i → i < l.self-inside.places → i ≢ l.node / 2 → Wins l.self-inside.nodes.items i;
}

abbrev pub decreases-loop-node : goal.decreases-loop-node
decreases-loop-node l = l.node
