use Rattle.std.proofs.Common.{is_some, length, refl, ap, ◌∙◌}
use Rattle.doc_store.specs.Slots.{entry_at}
use Rattle.doc_store.specs.Stored.{document_of}
use Rattle.doc_store.proofs.Filled.{agrees_filled}
use Rattle.doc_store.proofs.Reading.{held_kept, some_of, entry_kept}
use Rattle.doc_theory.specs.Documents.{live}
use Rattle.doc_store.proofs.store.Store.entry.Goals as goal

pub returns-clause-live : goal.returns-clause-live
returns-clause-live c = rw (← c.self.view_is) (λ h. some_of (λ s. s.now) c.at.result (ap is_some c.at.ensures ∙ held_kept c.self.inside.graph
    c.self.inside.slots (document_of c.self.inside.graph c.self.inside.slots c.self.inside.limit) c.self.invariant c.args.id h))

pub returns-clause-entry : goal.returns-clause-entry
returns-clause-entry c = rw (← c.self.view_is) (entry_kept c.self.inside.slots c.args.id _ c.at.ensures
    (live (document_of c.self.inside.graph c.self.inside.slots c.self.inside.limit))
    (agrees_filled (entry_at c.self.inside.slots) (λ i. refl) c.self.inside.graph (length c.self.inside.slots) c.self.inside.limit))
