use Rattle.std.proofs.Common.{◌≡◌, ◌∷◌, [], sym, ap, subst, ◌∙◌, true}
use Rattle.line_theory.specs.Lists.{has}
use Rattle.doc_theory.specs.Documents.{ids, tell}
use Rattle.doc_theory.proofs.Places.{ids_line}
use Rattle.doc_store.specs.Stored.{Stored, Outside, document_of}
use Rattle.doc_store.proofs.Told.{told_is, told_kept, told_notes}
use Rattle.doc_store.proofs.store.Store.tell.Goals as goal

pub invariant_of-self : goal.invariant_of-self
invariant_of-self c = told_kept c.self.inside.graph c.self.inside.slots c.tell.new.self c.self.inside.limit c.args.id c.args.text
    c.self.invariant (subst (λ z. has c.args.id z ≡ true) (ap (λ (z : Stored). ids z.document) (sym c.self.view_is)
    ∙ ids_line (document_of c.self.inside.graph c.self.inside.slots c.self.inside.limit)) c.requires.live)
    (subst (λ (z : Stored). Outside c.args.id z.document) (sym c.self.view_is) c.requires.outside) c.tell.ensures.length c.tell.ensures.slots

pub returns-clause-document : goal.returns-clause-document
returns-clause-document c = told_is c.self.inside.graph c.self.inside.slots c.tell.new.self c.self.inside.limit c.args.id c.args.text
    c.self.invariant (subst (λ z. has c.args.id z ≡ true) (ap (λ (z : Stored). ids z.document) (sym c.self.view_is)
    ∙ ids_line (document_of c.self.inside.graph c.self.inside.slots c.self.inside.limit)) c.requires.live)
    (subst (λ (z : Stored). Outside c.args.id z.document) (sym c.self.view_is) c.requires.outside) c.tell.ensures.length c.tell.ensures.slots
    ∙ ap (λ (z : Stored). tell (c.args.id ∷ []) z.document) c.self.view_is

pub returns-clause-notes : goal.returns-clause-notes
returns-clause-notes c = rw (← c.self.view_is) (told_notes c.self.inside.graph c.self.inside.slots c.tell.new.self c.self.inside.limit c.args.id c.args.text
    c.self.invariant (subst (λ z. has c.args.id z ≡ true) (ap (λ (z : Stored). ids z.document) (sym c.self.view_is)
    ∙ ids_line (document_of c.self.inside.graph c.self.inside.slots c.self.inside.limit)) c.requires.live)
    (subst (λ (z : Stored). Outside c.args.id z.document) (sym c.self.view_is) c.requires.outside) c.tell.ensures.length c.tell.ensures.slots)
