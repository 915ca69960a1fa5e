use Rattle.std.proofs.Common.{◌+◌, [], ◌∷◌, ◌++◌, sym, ap, ◌∙◌, arith}
use Rattle.vcs_graph.proofs.Places.{parted}
use Rattle.vcs_graph.proofs.Cuts.{front_more, opening_from, cut_table, cut_closed}
use Rattle.vcs_graph.proofs.cut.cut_from.Goals as goal

pub returns-then-opens_from-clause-table : goal.returns-then-opens_from-clause-table
returns-then-opens_from-clause-table c = λ h.
    let t = cut_table c.args.items.now.items c.forget_items.new.items.items c.args.ending.now c.clear.ensures.table
    c.forget_items.ensures.table h in
    let p = parted c.args.items.now.items c.args.place.item c.requires.item in
    let i = c.forget_items.ensures.items ∙ front_more p.front p.rest c.args.items.now.items p.item c.args.place.item
    (c.args.place.item + 1) (omega arith) p.whole p.count in
    let o = opening_from c.args.place.part c.index.result.now (sym c.opens_from.ensures ∙ c.if-opens_from.true) in
    c.reopen_last.ensures.table p.front o.lemma o.inside o.closer (i ∙
    ap (λ z. p.front ++ (z ∷ [])) (sym (c.index.ensures ∙ p.at c.index.result.now) ∙ o.is)) t

pub returns-else-opens_from-clause-table : goal.returns-else-opens_from-clause-table
returns-else-opens_from-clause-table c = λ h. rw c.clear.ensures.closed
    (cut_closed c.forget_items-else-opens_from.new.items.items (cut_table c.args.items.now.items
    c.forget_items-else-opens_from.new.items.items c.args.ending.now c.clear.ensures.table
    c.forget_items-else-opens_from.ensures.table h))
