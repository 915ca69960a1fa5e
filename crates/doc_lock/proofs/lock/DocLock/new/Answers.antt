use Rattle.std.proofs.Common.{rules, ◌≡◌, refl, ap, ◌∙◌}
use Rattle.doc_lock.specs.declared.view.View.{View}
use Rattle.doc_lock.specs.Views.{beginning, taking}
use Rattle.doc_lock.specs.Told.{given_back}
use Rattle.doc_lock.proofs.Ends.{opens, starts}
use Rattle.doc_lock.proofs.Steps.{takes_empty}
use Rattle.doc_lock.proofs.lock.DocLock.new.Goals as goal

pub vacant-requires : goal.vacant-requires
vacant-requires g c = opens g.S.Guarded.list g.S.Guarded.author g.S.Guarded.origin

pub store-requires : goal.store-requires
store-requires g c = let me = c.in-Ok.ensures.4 in (
  search rules,
  search rules,
  takes_empty g.S.Guarded.list g.S.Guarded.author g.S.Guarded.origin _ _ _ (ap (λ m. m.0.live) me) (ap (λ m. m.0.number) me)
      (ap (λ m. m.0.seen) me) (ap (λ m. m.0.holds) me) (ap (λ m. m.0.origin) me),
)

pub returns : goal.returns
returns g c = let me = c.in-Ok.ensures.4 in let taken = c.store.ensures.2 in
    let before : c.store.new.seat.me.0 ≡ taking beginning = ap (λ m. m.0) taken ∙ ap (λ m. taking m.0) me in
    record {
      made = (
        refl,
        search rules,
        ap (λ m. m.0) c.put_home.ensures.home ∙ (ap (λ (v : View g.row.S-Entry.Denot g.row.S-Origin.Denot).
            given_back g.S.Guarded.list g.S.Guarded.author g.S.Guarded.origin v c.args.state) before
            ∙ starts g.S.Guarded.list g.S.Guarded.author g.S.Guarded.origin c.args.state c.requires.empty),
      );
    }
