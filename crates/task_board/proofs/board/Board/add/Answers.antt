use Rattle.std.proofs.Common.{◌≡◌, ◌<◌, ◌^◌, false, sym, subst, ap, ◌∙◌, set}
use Rattle.task_board.specs.Rows.{Table, has_row}
use Rattle.task_board.proofs.Kept.{added-kept, on-ok, table-posted}
use Rattle.task_board.proofs.board.Board.add.Goals as goal

pub invariant_of-self : goal.invariant_of-self
invariant_of-self g c =
    let few = subst (λ (t : Table g.row.T.Denot g.row.R.Denot). t.next < 2 ^ 63) (sym c.self.view_is) c.requires.few in
    let room = subst (λ (t : Table g.row.T.Denot g.row.R.Denot). 0 < t.spare) (sym c.self.view_is) c.requires.room in
    let fresh = subst (λ (t : Table g.row.T.Denot g.row.R.Denot). has_row c.args.block t.rows ≡ false) (sym c.self.view_is) c.requires.fresh in
    let place = c.len-place.ensures ∙ c.self.inside.slots.ok.0 in
    let waits = c.set.ensures ∙ ap (λ i. set c.self.inside.waiting i c.self.inside.next) place in
    let leaves = c.set-2.ensures ∙ ap (λ i. set c.self.inside.left i c.self.inside.next) place in
    let put = on-ok _ _ _ c.unwrap.ensures c.insert-inserted.ensures.updates in
    (added-kept c.self.invariant c.insert-inserted.new.self c.args.block c.args.work few room fresh (record {
      slots_are = c.push_reserved.ensures.items;
      capacity_is = c.push_reserved.ensures.capacity;
      waiting_are = waits;
      left_are = leaves;
      blocks_are = put.0;
      spares = c.insert-inserted.ensures.spare;
    })).0

pub returns-clause-added : goal.returns-clause-added
returns-clause-added g c =
    let few = subst (λ (t : Table g.row.T.Denot g.row.R.Denot). t.next < 2 ^ 63) (sym c.self.view_is) c.requires.few in
    let room = subst (λ (t : Table g.row.T.Denot g.row.R.Denot). 0 < t.spare) (sym c.self.view_is) c.requires.room in
    let fresh = subst (λ (t : Table g.row.T.Denot g.row.R.Denot). has_row c.args.block t.rows ≡ false) (sym c.self.view_is) c.requires.fresh in
    let place = c.len-place.ensures ∙ c.self.inside.slots.ok.0 in
    let waits = c.set.ensures ∙ ap (λ i. set c.self.inside.waiting i c.self.inside.next) place in
    let leaves = c.set-2.ensures ∙ ap (λ i. set c.self.inside.left i c.self.inside.next) place in
    let put = on-ok _ _ _ c.unwrap.ensures c.insert-inserted.ensures.updates in
    rw (← c.self.view_is) (table-posted c.args.block c.args.work _ _
    (added-kept c.self.invariant c.insert-inserted.new.self c.args.block c.args.work few room fresh (record {
      slots_are = c.push_reserved.ensures.items;
      capacity_is = c.push_reserved.ensures.capacity;
      waiting_are = waits;
      left_are = leaves;
      blocks_are = put.0;
      spares = c.insert-inserted.ensures.spare;
    })).1)
