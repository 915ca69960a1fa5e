use Rattle.std.proofs.Common.{rules, ap, ◌∙◌}
use Rattle.doc_lock.proofs.Splitting.{splits}
use Rattle.doc_lock.proofs.lock.DocLock.split.Goals as goal

pub split_seat-place-requires : goal.split_seat-place-requires
split_seat-place-requires g c = (
  search rules,
  search rules,
  splits g.S.Guarded.list g.S.Guarded.author g.S.Guarded.origin _ _ c.seat.invariant.live
      (ap (λ s. s.view.number) c.seat.view_is ∙ c.requires.first.0) c.seat.invariant.begun,
)
