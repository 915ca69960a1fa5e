use Rattle.std.proofs.Common.{◌≡◌, ◌≤◌, length, take}
use Rattle.task_board.specs.Slots.{full}
use Rattle.task_board.proofs.slot.row_count.Given as goal

abbrev pub invariant-loop-slot : goal.invariant-loop-slot
invariant-loop-slot g l = record {
  counted : l.rows ≡ length (full (take l.slot-index l.slots));
  few : l.rows ≤ l.slot-index;
}
