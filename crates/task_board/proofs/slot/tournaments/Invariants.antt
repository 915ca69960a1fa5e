use Rattle.std.proofs.Common.{◌≡◌, ◌≤◌, length, take}
use Rattle.task_board.specs.Rows.{is_waiting, is_left}
use Rattle.task_board.specs.Slots.{Marks, full}
use Rattle.task_board.proofs.slot.tournaments.Given as goal

abbrev pub invariant-loop-slot : goal.invariant-loop-slot
invariant-loop-slot g l = record {
  placed : l.place ≡ length (full (take l.slot-index l.slots));
  waits : Marks is_waiting (full (take l.slot-index l.slots)) l.waiting;
  leaves : Marks is_left (full (take l.slot-index l.slots)) l.left;
  waiting_places : length l.waiting ≡ l.places;
  left_places : length l.left ≡ l.places;
}
