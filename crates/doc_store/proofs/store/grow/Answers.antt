use Rattle.std.proofs.Common.{sym, ap, ◌∙◌, option_map, rules}
use Rattle.doc_store.specs.Slots.{at_all, lowered}
use Rattle.doc_store.proofs.Growing.{grown_closed}
use Rattle.doc_store.proofs.store.grow.Goals as goal

pub returns-then-delegates-clause-slots : goal.returns-then-delegates-clause-slots
returns-then-delegates-clause-slots c = grown_closed c.args.graph.now c.add_at_cursor.new.graph c.args.sentence
    c.closed_inside.result.now c.args.slots.now c.lower_all.new.self c.in-Close-default.closer
    (sym c.kind-kind.ensures ∙ c.in-Close-default.is-0) c.requires (search rules) (search rules) c.closed_inside.ensures
    (λ i. c.lower_all.ensures.slots i ∙ ap (λ z. at_all c.closed_inside.result.now (option_map lowered) z i) (search rules))
