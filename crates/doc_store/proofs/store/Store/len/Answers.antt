use Rattle.std.proofs.Common.{length, ap, ◌∙◌}
use Rattle.doc_store.specs.Stored.{document_of}
use Rattle.doc_store.proofs.Reading.{ids_kept}
use Rattle.doc_store.proofs.store.Store.len.Goals as goal

pub returns : goal.returns
returns c = rw (← c.self.view_is) (c.len.ensures ∙ ap length (ids_kept c.self.inside.graph c.self.inside.slots
    (document_of c.self.inside.graph c.self.inside.slots c.self.inside.limit) c.self.invariant
    (c.documents_are_lines.ensures.ids (document_of c.self.inside.graph c.self.inside.slots c.self.inside.limit))))
