use Rattle.std.proofs.Common.{◌≡◌, ◌≤◌, ◌-◌, ◌++◌, ℕ, List, Option, length, take, drop, sym, ap, subst, ◌∙◌}
use Rattle.line_theory.specs.Lines.{Line}
use Rattle.line_theory.specs.Edits as edits
use Rattle.doc_theory.specs.Documents.{Document, ids, live}
use Rattle.doc_theory.specs.Editing.{remove}
use Rattle.doc_store.specs.declared.slots.Slot.{Slot}
use Rattle.doc_store.specs.Slots.{text_at}
use Rattle.doc_store.specs.Stored.{Fewer, IsKept, IsRemoval, document_of, notes_by}
use Rattle.doc_store.proofs.Reading.{ids_kept}
use Rattle.doc_store.proofs.Leaving.{Went, went, stays, slice_behind, lost_kept, left_kept, left_removed, left_notes}
use Rattle.doc_store.proofs.store.Store.remove.Goals as goal

pub remove-removal-requires : goal.remove-removal-requires
remove-removal-requires c =
    let d : Document = document_of c.self.inside.graph c.self.inside.slots c.self.inside.limit in
    let room : length (ids d) ≤ c.args.gone.now.spare =
    subst (λ z. length (ids z.document) ≤ c.args.gone.now.spare) (sym c.self.view_is) c.requires.room in
    record {
      room = subst (λ z. z ≤ c.args.gone.now.spare)
          (sym (ap length (ids_kept c.self.inside.graph c.self.inside.slots d c.self.invariant (c.documents_are_lines.ensures.ids d)))) room;
    }

-- what went
it_went : (c : goal.After-leave) → Went (document_of c.self.inside.graph c.self.inside.slots c.self.inside.limit) c.args.id
    c.remove-removal.new.graph c.in-Removed.field-0
it_went c = went c.self.inside.graph c.self.inside.slots (document_of c.self.inside.graph c.self.inside.slots c.self.inside.limit)
    c.self.invariant c.args.id c.remove-removal.new.graph c.remove-removal.result c.remove-removal.ensures.line
    c.remove-removal.ensures.told
    (c.documents_are_lines.ensures.removed (document_of c.self.inside.graph c.self.inside.slots c.self.inside.limit) c.args.id) c.in-Removed.field-0 c.in-Removed.is

-- and it is what was listed
listed : (c : goal.After-leave) → take (length c.as_slice.result.now - c.len-from.result) (drop c.len-from.result c.as_slice.result.now)
    ≡ edits.lost c.self.inside.graph c.remove-removal.new.graph
listed c = slice_behind c.args.gone.now.items (edits.lost c.self.inside.graph c.remove-removal.new.graph) c.as_slice.result.now
    c.len-from.result c.len-from.ensures (c.as_slice.ensures ∙ c.remove-removal.ensures.gone)

pub invariant_of-self : goal.invariant_of-self
invariant_of-self c = left_kept c.self.inside.graph c.self.inside.slots c.self.inside.limit c.args.id c.self.invariant
    c.remove-removal.new.graph c.in-Removed.field-0 (it_went c) _ (listed c) c.leave.new.slots c.leave.ensures.slots c.leave.ensures.length
    c.documents_are_lines.ensures.ids

pub returns-in-Removed-clause-removed : goal.returns-in-Removed-clause-removed
returns-in-Removed-clause-removed c = rw (← c.self.view_is) (left_removed c.self.inside.graph c.self.inside.slots c.self.inside.limit c.args.id c.self.invariant
    c.remove-removal.new.graph c.in-Removed.field-0 (it_went c) _ (listed c) c.leave.new.slots c.leave.ensures.slots c.leave.ensures.length
    c.documents_are_lines.ensures.ids c.documents_are_lines.ensures.outcome c.remove-removal.result c.in-Removed.is)

pub returns-in-Removed-clause-notes : goal.returns-in-Removed-clause-notes
returns-in-Removed-clause-notes c = rw (← c.self.view_is) (left_notes c.self.inside.graph c.self.inside.slots c.self.inside.limit c.args.id c.self.invariant
    c.remove-removal.new.graph c.in-Removed.field-0 (it_went c) _ (listed c) c.leave.new.slots c.leave.ensures.slots c.leave.ensures.length
    c.documents_are_lines.ensures.ids)

pub returns-in-Removed-clause-gone : goal.returns-in-Removed-clause-gone
returns-in-Removed-clause-gone c = rw (← c.self.view_is) (c.remove-removal.ensures.gone ∙ ap (λ z. c.args.gone.now.items ++ z)
    (lost_kept c.self.inside.graph c.remove-removal.new.graph c.self.inside.slots c.leave.new.slots
    (document_of c.self.inside.graph c.self.inside.slots c.self.inside.limit)
    (document_of c.remove-removal.new.graph c.leave.new.slots c.self.inside.limit) c.self.invariant (invariant_of-self c)
    (c.documents_are_lines.ensures.lost (document_of c.self.inside.graph c.self.inside.slots c.self.inside.limit)
    (document_of c.remove-removal.new.graph c.leave.new.slots c.self.inside.limit))))

pub returns-in-Removed-clause-room : goal.returns-in-Removed-clause-room
returns-in-Removed-clause-room c = subst (λ z. z ≤ c.remove-removal.new.gone.spare) (ap length (ids_kept c.remove-removal.new.graph c.leave.new.slots
    (document_of c.remove-removal.new.graph c.leave.new.slots c.self.inside.limit) (invariant_of-self c)
    (c.documents_are_lines.ensures.ids (document_of c.remove-removal.new.graph c.leave.new.slots c.self.inside.limit)))) c.remove-removal.ensures.room

-- nothing went
it_stays : (c : goal.In_default) → (c.remove-removal.new.graph ≡ c.self.inside.graph)
    × IsRemoval c.remove-removal.result (remove (document_of c.self.inside.graph c.self.inside.slots c.self.inside.limit) c.args.id)
    (document_of c.self.inside.graph c.self.inside.slots c.self.inside.limit)
    (document_of c.self.inside.graph c.self.inside.slots c.self.inside.limit)
it_stays c = stays c.self.inside.graph c.self.inside.slots (document_of c.self.inside.graph c.self.inside.slots c.self.inside.limit)
    c.self.invariant c.args.id c.remove-removal.new.graph c.remove-removal.result c.remove-removal.ensures.line
    c.remove-removal.ensures.told (c.documents_are_lines.ensures.removed (document_of c.self.inside.graph c.self.inside.slots c.self.inside.limit) c.args.id)
    c.in_default.not-Removed

pub invariant_of-self-in_default : goal.invariant_of-self-in_default
invariant_of-self-in_default c = subst (λ z. IsKept z c.self.inside.slots (document_of z c.self.inside.slots c.self.inside.limit))
    (sym (it_stays c).0) c.self.invariant

pub returns-in_default : goal.returns-in_default
returns-in_default c =
    let l : Line = c.self.inside.graph in
    let slots : List (Option Slot) = c.self.inside.slots in
    let limit : ℕ = c.self.inside.limit in
    let d : Document = document_of l slots limit in
    let new : Line = c.remove-removal.new.graph in
    let same : new ≡ l = (it_stays c).0 in
    rw (← c.self.view_is) (record {
      removed = subst (λ z. IsRemoval c.remove-removal.result (remove d c.args.id) d (document_of z slots limit)) (sym same) (it_stays c).1;
      gone = c.remove-removal.ensures.gone ∙ ap (λ z. c.args.gone.now.items ++ z) (lost_kept l new slots slots d
          (document_of new slots limit) c.self.invariant (invariant_of-self-in_default c)
          (c.documents_are_lines.ensures.lost d (document_of new slots limit)));
      room = subst (λ z. z ≤ c.remove-removal.new.gone.spare) (ap length (ids_kept new slots
          (document_of new slots limit) (invariant_of-self-in_default c)
          (c.documents_are_lines.ensures.ids (document_of new slots limit)))) c.remove-removal.ensures.room;
      notes = subst (λ z. Fewer (notes_by (text_at slots) (live d)) (notes_by (text_at slots) (live (document_of z slots limit)))) (sym same)
          (λ n m. m);
    })
