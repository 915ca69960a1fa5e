use Rattle.std.proofs.Common.{◌^◌, not, nat_lt, ap, ◌∙◌}
use Rattle.doc_store.specs.Stored.{document_of}
use Rattle.doc_store.proofs.Reading.{full_kept, first_true, second_left, not_below, is_below}
use Rattle.doc_store.proofs.store.Store.is_full.Goals as goal

pub returns-then-not-has_room : goal.returns-then-not-has_room
returns-then-not-has_room c = rw (← c.self.view_is) (first_true (not (nat_lt c.len.result c.self.inside.limit)) _
    (ap not (not_below c.len.result c.self.inside.limit c.if-not-has_room.true))
    ∙ full_kept c.self.inside.graph c.self.inside.slots
    (document_of c.self.inside.graph c.self.inside.slots c.self.inside.limit) c.self.invariant
    (c.documents_are_lines.ensures.ids (document_of c.self.inside.graph c.self.inside.slots c.self.inside.limit)) c.len.result c.len.ensures)

pub returns-else-not-has_room : goal.returns-else-not-has_room
returns-else-not-has_room c = rw (← c.self.view_is) (ap (λ z. not (nat_lt z (2 ^ 62))) c.next-has_id.ensures
    ∙ second_left (not (nat_lt c.len.result c.self.inside.limit)) _
    (ap not (is_below c.len.result c.self.inside.limit c.if-not-has_room.false))
    ∙ full_kept c.self.inside.graph c.self.inside.slots
    (document_of c.self.inside.graph c.self.inside.slots c.self.inside.limit) c.self.invariant
    (c.documents_are_lines.ensures.ids (document_of c.self.inside.graph c.self.inside.slots c.self.inside.limit)) c.len.result c.len.ensures)
