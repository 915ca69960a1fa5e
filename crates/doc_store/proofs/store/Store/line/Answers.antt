use Rattle.std.proofs.Common.{◌≡◌, IfOk, subst}
use Rattle.doc_store.specs.Stored.{document_of}
use Rattle.doc_store.proofs.Reading.{ids_kept}
use Rattle.doc_store.proofs.store.Store.line.Goals as goal

pub returns : goal.returns
returns c = rw (← c.self.view_is) (subst (λ z. IfOk c.line.result (λ l. l ≡ z)) (ids_kept c.self.inside.graph c.self.inside.slots
    (document_of c.self.inside.graph c.self.inside.slots c.self.inside.limit) c.self.invariant
    (c.documents_are_lines.ensures.ids (document_of c.self.inside.graph c.self.inside.slots c.self.inside.limit))) c.line.ensures)
