use Rattle.std.proofs.Common.{nat_eq, ap, ◌∙◌}
use Rattle.line_theory.specs.Lists.{has}
use Rattle.line_theory.specs.Lines as lines
use Rattle.doc_theory.specs.Documents.{ids}
use Rattle.doc_store.specs.Stored.{document_of}
use Rattle.doc_store.proofs.Reading.{ids_kept, second_left, is_other, same_test}
use Rattle.doc_store.proofs.store.Store.is_state.Goals as goal

pub returns-else-id-eq1 : goal.returns-else-id-eq1
returns-else-id-eq1 c = rw (← c.self.view_is) (same_test c.live.result (has c.args.id (lines.ids c.self.inside.graph)) c.live.ensures
    ∙ ap (has c.args.id) (ids_kept c.self.inside.graph c.self.inside.slots
    (document_of c.self.inside.graph c.self.inside.slots c.self.inside.limit) c.self.invariant
    (c.documents_are_lines.ensures.ids (document_of c.self.inside.graph c.self.inside.slots c.self.inside.limit)))
    ∙ second_left (nat_eq 1 c.args.id) (has c.args.id (ids (document_of c.self.inside.graph c.self.inside.slots c.self.inside.limit)))
    (is_other c.args.id 1 c.if-id-eq1.false))
