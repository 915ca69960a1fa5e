use Rattle.std.proofs.Common.{rules, ◌∷◌, Some, sym, ap, ◌∙◌}
use Rattle.atomic_table.specs.Table.{rest}
use Rattle.doc_lock.proofs.Steps.{tries}
use Rattle.doc_lock.proofs.lock.DocLock.try_hold.Goals as goal

pub compare_exchange-found-requires : goal.compare_exchange-found-requires
compare_exchange-found-requires g c = (
  search rules,
  search rules,
  tries g.S.Guarded.list g.S.Guarded.author g.S.Guarded.origin _ _ _ _ c.seat.invariant.live
      (ap (λ s. s.view.holds) c.seat.view_is ∙ c.requires.free) (search rules),
)

pub exchange-requires : goal.exchange-requires
exchange-requires g c = let t = c.compare_exchange-found.ensures.2.0 c.if-found-ne0.false in let carried = ap (λ m. m.1) t.2 in
    (search rules, (Some t.0, carried ∙ ap (λ cs. (0, Some t.0) ∷ rest cs) (sym carried)))
