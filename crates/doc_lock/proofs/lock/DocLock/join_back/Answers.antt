use Rattle.std.proofs.Common.{rules, sym, ap, ◌∙◌}
use Rattle.doc_lock.proofs.Splitting.{joins}
use Rattle.doc_lock.proofs.lock.DocLock.join_back.Goals as goal

pub join_seat-requires : goal.join_seat-requires
join_seat-requires g c = let calm = ap (λ s. s.view.holds) c.other.view_is ∙ c.requires.free.1 in (
  search rules,
  search rules,
  c.other.invariant.free calm,
  search rules,
  joins g.S.Guarded.list g.S.Guarded.author g.S.Guarded.origin _ _ _ _ c.seat.invariant.live
      (ap (λ s. s.view.holds) c.seat.view_is ∙ c.requires.free.0) c.other.invariant.live calm
      (λ q. c.requires.other (sym (ap (λ s. s.view.number) c.other.view_is) ∙ q)),
)
