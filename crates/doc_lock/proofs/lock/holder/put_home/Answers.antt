use Rattle.std.proofs.Common.{rules, ◌≡◌, ◌⊎◌, [], ◌∷◌, Option, Some, None, sym, ap, ◌∙◌, subst}
use Rattle.atomic_table.specs.Table.{rest}
use Rattle.doc_lock.specs.declared.view.View.{View}
use Rattle.doc_lock.specs.Lists.{Adds}
use Rattle.doc_lock.proofs.Steps.{publishes, frees}
use Rattle.doc_lock.proofs.lock.holder.put_home.Goals as goal

pub store-requires : goal.store-requires
store-requires g c = let e = c.exchange-empty.ensures.3 in let x : g.row.S.Denot = c.args.state in
    let at : c.exchange-empty.new.seat.me.0 ≡ c.args.place.now.me.0 = ap (λ m. m.0) e in
    let carried : c.exchange-empty.new.seat.me.1 ≡ (0, Some x) ∷ [] = ap (λ m. m.1) e
    ∙ ap (λ cs. (0, Some x) ∷ rest cs) c.requires.holds.2 in (
      search rules,
      search rules,
      publishes g.S.Guarded.list g.S.Guarded.author g.S.Guarded.origin _ _ _ x _ (ap (λ v. v.live) at
          ∙ c.requires.holds.0) (ap (λ v. v.holds) at ∙ c.requires.holds.1) carried
          (subst (λ (v : View g.row.S-Entry.Denot g.row.S-Origin.Denot). Adds g.S.Guarded.author v.number v.seen (g.S.Guarded.list x))
          (sym at) c.requires.grown) c.entries-length.ensures.count,
    )

pub store-requires-2 : goal.store-requires-2
store-requires-2 g c = let e = c.exchange-empty.ensures.3 in let x : g.row.S.Denot = c.args.state in
    let at : c.exchange-empty.new.seat.me.0 ≡ c.args.place.now.me.0 = ap (λ m. m.0) e in
    let carried : c.exchange-empty.new.seat.me.1 ≡ (0, Some x) ∷ [] = ap (λ m. m.1) e
    ∙ ap (λ cs. (0, Some x) ∷ rest cs) c.requires.holds.2 in
    let now = c.store.ensures.2 x carried in (
      search rules,
      search rules,
      frees g.S.Guarded.list g.S.Guarded.author g.S.Guarded.origin _ _ _ x (ap (λ m. m.0.live) now
          ∙ (ap (λ v. v.live) at ∙ c.requires.holds.0)) (ap (λ m. m.0.holds) now ∙ (ap (λ v. v.holds) at ∙ c.requires.holds.1))
          (ap (λ m. m.1) now ∙ carried) (ap (λ m. m.0.seen) now)
          (subst (λ (o : Option g.row.S-Origin.Denot). (o ≡ Some (g.S.Guarded.origin x))
          ⊎ (o ≡ None)) (sym (ap (λ m. m.0.origin) now ∙ ap (λ v. v.origin) at)) c.requires.origin),
    )
