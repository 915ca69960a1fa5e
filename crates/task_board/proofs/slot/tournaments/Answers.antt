use Rattle.std.proofs.Common.{[], ◌∷◌, length, length-append, take, sym, ap, ◌∙◌, refl, set, arith}
use Rattle.std.proofs.lemmas.List.{length-set, length-replicate}
use Rattle.task_board.specs.Rows.{is_waiting, is_left}
use Rattle.task_board.specs.Slots.{full}
use Rattle.task_board.specs.Places.{nothing}
use Rattle.task_board.proofs.Full.{start-full, step-full, full-less, full-more, full-same}
use Rattle.task_board.proofs.slot.tournaments.Goals as goal
use Rattle.task_board.proofs.slot.tournaments.Goals.{then-is_some, else-is_some}

pub loop-slot-init : goal.loop-slot-init
loop-slot-init g c = record {
  placed = refl;
  waits = start-full is_waiting c.args.slots.now c.in_ok-waiting.waiting c.args.places c.in_ok-waiting.ensures;
  leaves = start-full is_left c.args.slots.now c.in_ok-left.left c.args.places c.in_ok-left.ensures;
  waiting_places = ap length c.in_ok-waiting.ensures ∙ length-replicate c.args.places nothing;
  left_places = ap length c.in_ok-left.ensures ∙ length-replicate c.args.places nothing;
}

pub set-requires : goal.set-requires
set-requires g c =
    let less = full-less c.loop-slot.slot-index c.args.slots.now c.slot-item.result c.loop-slot-test.true c.slot-item.is (sym c.is_some.ensures ∙ c.if-is_some.true) in
    omega (arith, less, c.loop-slot.invariant.placed, c.loop-slot.invariant.waiting_places, c.requires.enough)

pub set-requires-then-is_some : goal.set-requires-then-is_some
set-requires-then-is_some g c =
    let less = full-less c.loop-slot.slot-index c.args.slots.now c.slot-item.result c.loop-slot-test.true c.slot-item.is (sym c.is_some.ensures ∙ c.if-is_some.true) in
    omega (arith, less, c.loop-slot.invariant.placed, c.loop-slot.invariant.left_places, c.requires.enough)

pub loop-slot-preserved : goal.loop-slot-preserved
loop-slot-preserved g c =
    let i = c.loop-slot.slot-index in
    let ss = c.args.slots.now in
    let s = c.slot-item.result in
    elim c.if-is_some.branch [
      | then-is_some w ↦
          let yes = sym c.is_some.ensures ∙ w.if-is_some.true in
          let waiting = w.waiting-is ∙ w.set.ensures ∙ ap (set c.loop-slot.waiting c.loop-slot.place) w.waiting_key.ensures in
          let left = w.left-is ∙ w.set-then-is_some.ensures ∙ ap (set c.loop-slot.left c.loop-slot.place) w.left_key.ensures in
          let more = full-more i ss s c.loop-slot-test.true c.slot-item.is yes in
          record {
            placed = rw (w.place-is, c.loop-slot.invariant.placed, more) (sym (length-append (full (take i ss)) (s ∷ [])));
            waits = step-full is_waiting ss i s c.loop-slot-test.true c.slot-item.is yes c.loop-slot.place
                c.loop-slot.waiting c.if-is_some.waiting c.loop-slot.invariant.waits c.loop-slot.invariant.placed
                (omega (arith, c.loop-slot.invariant.waiting_places, c.requires.enough)) waiting;
            leaves = step-full is_left ss i s c.loop-slot-test.true c.slot-item.is yes c.loop-slot.place
                c.loop-slot.left c.if-is_some.left c.loop-slot.invariant.leaves c.loop-slot.invariant.placed
                (omega (arith, c.loop-slot.invariant.left_places, c.requires.enough)) left;
            waiting_places = ap length waiting ∙ length-set c.loop-slot.waiting c.loop-slot.place _ ∙ c.loop-slot.invariant.waiting_places;
            left_places = ap length left ∙ length-set c.loop-slot.left c.loop-slot.place _ ∙ c.loop-slot.invariant.left_places;
          }
      | else-is_some w ↦
          let same = full-same i ss s c.loop-slot-test.true c.slot-item.is (sym c.is_some.ensures ∙ w.if-is_some.false) in
          rw (w.waiting-is, w.left-is, w.place-is, same) (record {
            placed = c.loop-slot.invariant.placed;
            waits = c.loop-slot.invariant.waits;
            leaves = c.loop-slot.invariant.leaves;
            waiting_places = c.loop-slot.invariant.waiting_places;
            left_places = c.loop-slot.invariant.left_places;
          })
    ]
