use Rattle.std.proofs.Common.{◌≡◌, Some, sym, ap, ◌∙◌, subst}
use mathlib.Core.Option.{some-injective}
use Rattle.doc_lock.specs.Told.{Covers, Ends}
use Rattle.doc_lock.proofs.Ends.{closes}
use Rattle.doc_lock.proofs.lock.DocLock.close.Goals as goal

pub unreachable-requires : goal.unreachable-requires
unreachable-requires g c = let is = c.seat.view_is in
    let f = closes g.S.Guarded.list g.S.Guarded.author g.S.Guarded.origin _ _ _ _ c.seat.invariant.live
    (ap (λ s. s.view.holds) is ∙ c.requires.last.1) (ap (λ s. s.view.number) is ∙ c.requires.last.0) c.seat.invariant.begun
    (subst (λ s. Covers s.view) (sym is) c.requires.all) c.close_with-closed.ensures.values.2 in
    let found : c.take-slot.result ≡ Some f.0 = some-injective _ _ (sym c.take-slot.ensures.value ∙ f.1) in
    c.in_default.not-Some f.0 found

pub returns : goal.returns
returns g c = let is = c.seat.view_is in
    let f = closes g.S.Guarded.list g.S.Guarded.author g.S.Guarded.origin _ _ _ _ c.seat.invariant.live
    (ap (λ s. s.view.holds) is ∙ c.requires.last.1) (ap (λ s. s.view.number) is ∙ c.requires.last.0) c.seat.invariant.begun
    (subst (λ s. Covers s.view) (sym is) c.requires.all) c.close_with-closed.ensures.values.2 in
    let found : Some f.0 ≡ Some c.in-Some.state = sym (some-injective _ _ (sym c.take-slot.ensures.value ∙ f.1)) ∙ c.in-Some.is in
    let same : f.0 ≡ c.in-Some.state = cc in
    record {
      ends = subst (λ s. Ends g.S.Guarded.list g.S.Guarded.author g.S.Guarded.origin s.view c.in-Some.state) is
          (subst (Ends g.S.Guarded.list g.S.Guarded.author g.S.Guarded.origin c.seat.inside.place.me.0) same f.2);
    }
