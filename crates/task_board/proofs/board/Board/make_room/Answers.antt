use Rattle.std.proofs.Common.{◌≡◌, length, max, ap, ◌∙◌, subst, arith}
use Rattle.task_board.specs.Rows.{is_waiting, is_left}
use Rattle.task_board.specs.Slots.{Marks, full, rows_of}
use Rattle.task_board.proofs.Full.{rows-full}
use Rattle.task_board.proofs.Kept.{renewed-kept, table}
use Rattle.task_board.proofs.board.Board.make_room.Goals as goal

pub invariant_of-self-2 : goal.invariant_of-self-2
invariant_of-self-2 g c =
    let same = c.in_ok-reserve-2.ensures.items in
    let shown = c.deref-2.ensures.value ∙ same in
    let waits = subst (λ ss. Marks is_waiting (full ss) c.in_ok-waiting.waiting) shown c.in_ok-waiting.ensures.waiting in
    let leaves = subst (λ ss. Marks is_left (full ss) c.in_ok-waiting.left) shown c.in_ok-waiting.ensures.left in
    let kept = c.row_count-kept.ensures ∙ ap (λ ss. length (full ss)) c.deref.ensures.value in
    let more : c.max-more.result ≡ max c.args.rows c.row_count-kept.result = c.max-more.ensures in
    let capacity = c.close_up.ensures.capacity in
    let room = c.in_ok-reserve-2.ensures.ok in
    (renewed-kept c.self.invariant c.reserve.new.self c.args.rows (c.close_up.ensures.items ∙ ap full same) waits leaves
    c.reserve.ensures.entries.2 (record {
      slots_room = omega (arith, kept, more, capacity, room, c.len.ensures, c.saturating_sub.ensures, c.in_ok-reserve-2.ensures.len);
      waiting_room = omega (arith, kept, more, c.in_ok-waiting.ensures.waiting_places);
      left_room = omega (arith, kept, more, c.in_ok-waiting.ensures.left_places);
      blocks_room = omega (arith, more, c.in_ok-reserve.ensures.ok);
    })).0

pub returns-clause-ok : goal.returns-clause-ok
returns-clause-ok g c =
    let same = c.in_ok-reserve-2.ensures.items in
    rw (← c.self.view_is) (ap (λ rows. table rows c.self.inside.next c.args.rows) (ap rows_of (c.close_up.ensures.items ∙ ap full same) ∙ rows-full c.self.inside.slots.items))
