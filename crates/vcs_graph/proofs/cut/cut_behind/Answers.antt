use Rattle.std.proofs.Common.{◌+◌, [], ◌∷◌, ◌++◌, sym, ap, ◌∙◌, arith}
use Rattle.vcs_graph.proofs.Places.{parted}
use Rattle.vcs_graph.proofs.Cuts.{up_to_last, opening, cut_table, cut_closed}
use Rattle.vcs_graph.proofs.cut.cut_behind.Goals as goal

pub returns-then-opens_behind-clause-table : goal.returns-then-opens_behind-clause-table
returns-then-opens_behind-clause-table c = λ h.
    let t = cut_table c.args.items.now.items c.forget_items.new.items.items c.args.ending.now c.clear.ensures.table
    c.forget_items.ensures.table h in
    let p = parted c.args.items.now.items c.args.place.item c.requires.item in
    let u = up_to_last p.front p.rest c.args.items.now.items c.forget_items.new.items.items p.item c.index.result.now
    c.args.place.item (c.args.place.item + 1) (omega arith) c.forget_items.ensures.items p.whole p.count c.index.ensures in
    let o = opening c.args.place.part c.index.result.now (sym c.opens_behind.ensures ∙ c.if-opens_behind.true) in
    c.reopen_last.ensures.table p.front o.lemma o.inside o.closer (u.0 ∙ ap (λ z. p.front ++ (z ∷ [])) (sym u.1 ∙ o.is)) t

pub returns-else-opens_behind-clause-table : goal.returns-else-opens_behind-clause-table
returns-else-opens_behind-clause-table c = λ h. rw c.clear.ensures.closed
    (cut_closed c.forget_items.new.items.items (cut_table c.args.items.now.items c.forget_items.new.items.items
    c.args.ending.now c.clear.ensures.table c.forget_items.ensures.table h))
