use Rattle.std.proofs.Common.{rules, ap, ◌∙◌}
use Rattle.doc_lock.proofs.Steps.{looks}
use Rattle.doc_lock.proofs.lock.DocLock.rest.Goals as goal

pub load-found-requires : goal.load-found-requires
load-found-requires g c = (
  search rules,
  search rules,
  looks g.S.Guarded.list g.S.Guarded.author g.S.Guarded.origin _ _ _ (ap (λ v. v.live) c.loop.invariant.7 ∙ c.seat.invariant.live),
)
