use Rattle.std.proofs.Common.{◌∙◌}
use Rattle.doc_store.specs.Stored.{document_of}
use Rattle.doc_store.proofs.Reading.{cursor_kept}
use Rattle.doc_store.proofs.store.Store.cursor.Goals as goal

pub returns : goal.returns
returns c = rw (← c.self.view_is) (c.cursor.ensures ∙ cursor_kept c.self.inside.graph c.self.inside.slots
    (document_of c.self.inside.graph c.self.inside.slots c.self.inside.limit) c.self.invariant
    (c.documents_are_lines.ensures.cursor (document_of c.self.inside.graph c.self.inside.slots c.self.inside.limit)))
