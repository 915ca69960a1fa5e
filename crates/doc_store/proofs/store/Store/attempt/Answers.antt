use Rattle.std.proofs.Common.{◌≡◌, length, Some, None, sym, ap, ◌∙◌, rules}
use Rattle.line_theory.specs.Lines.{zone_in}
use Rattle.line_theory.specs.Lines.{tip as tip_of}
use Rattle.vern_step.specs.Parsed.{kind_in}
use Rattle.check_theory.specs.Pieces.{sentence_of}
use Rattle.doc_theory.specs.Editing.{added, attempt, is_full}
use Rattle.doc_store.specs.Cases.{closes, refusal_by}
use Rattle.doc_store.specs.Stored.{Stored, document_of, stored}
use Rattle.doc_store.proofs.Attempted.{Behind, grown, closes_zone, allowed_step, next_is_new, on_err}
use Rattle.doc_store.proofs.store.Store.attempt.Goals as goal

pub grow-requires : goal.grow-requires
grow-requires c =
    let no_zone : closes (kind_in c.args.sentence) (zone_in c.self.inside.graph.focus) ≡ None =
    cc (c.closes.ensures, c.kind-kind.ensures, c.zone.ensures, c.in-None.is) in
    let allowed : refusal_by (kind_in c.args.sentence) c.self.inside.graph.focus c.is_full.result c.args.offset ≡ None =
    cc (c.refusal.ensures, c.kind-kind.ensures, c.in_default.is) in (
      c.self.invariant.ids.next,
      (
        next_is_new (document_of c.self.inside.graph c.self.inside.slots c.self.inside.limit) _ _ (search rules)
            (ap (λ z. Rattle.line_theory.specs.Lines.ids z) (sym c.self.invariant.shape)
            ∙ c.documents_are_lines.ensures.ids (document_of c.self.inside.graph c.self.inside.slots c.self.inside.limit)) c.self.invariant.ids,
        allowed_step (kind_in c.args.sentence) c.self.inside.graph c.is_full.result c.args.offset allowed no_zone,
      ),
    )

pub invariant_of-self-in_err-id-in-None : goal.invariant_of-self-in_err-id-in-None
invariant_of-self-in_err-id-in-None c = rw (c.in_err-id-in-None.ensures.graph, c.in_err-id-in-None.ensures.kept) c.self.invariant

pub returns-in_err-id-in-None-clause-notes : goal.returns-in_err-id-in-None-clause-notes
returns-in_err-id-in-None-clause-notes c =
    rw (← c.self.view_is, c.in_err-id-in-None.ensures.graph, c.in_err-id-in-None.ensures.kept) (λ n m. m)

pub returns-in_err-id-in-None-clause-err : goal.returns-in_err-id-in-None-clause-err
returns-in_err-id-in-None-clause-err c = on_err c.from_residual-in_err-id-in-None.result _
    ((λ i. stored (c.in_err-id-in-None.ensures.graph i) (c.in_err-id-in-None.ensures.kept i) c.self.inside.limit) ∙ c.self.view_is)

behind : (c : goal.In_ok-id-in-None) → Behind (document_of c.self.inside.graph c.self.inside.slots c.self.inside.limit)
    (sentence_of c.args.sentence) c.args.offset c.self.inside.slots c.grow.new.graph c.grow.new.slots c.self.inside.limit
    (length c.self.inside.slots) None
behind c =
    let no_zone : closes (kind_in c.args.sentence) (zone_in c.self.inside.graph.focus) ≡ None =
    cc (c.closes.ensures, c.kind-kind.ensures, c.zone.ensures, c.in-None.is) in
    let full : c.is_full.result ≡ is_full (document_of c.self.inside.graph c.self.inside.slots c.self.inside.limit) =
    c.is_full.ensures ∙ ap (λ (z : Stored). is_full z.document) (sym c.self.view_is) in
    let allowed : refusal_by (kind_in c.args.sentence) c.self.inside.graph.focus
    (is_full (document_of c.self.inside.graph c.self.inside.slots c.self.inside.limit)) c.args.offset ≡ None =
    cc (c.refusal.ensures, c.kind-kind.ensures, c.in_default.is, full) in
    grown c.self.inside.graph c.self.inside.slots c.self.inside.limit c.args.sentence c.args.offset c.self.invariant
    (c.documents_are_lines.ensures.added (document_of c.self.inside.graph c.self.inside.slots c.self.inside.limit) c.args.offset
    (sentence_of c.args.sentence) c.self.invariant.sound) no_zone allowed c.grow.new.graph c.grow.new.slots
    c.in_ok-id-in-None.ensures.line c.in_ok-id-in-None.ensures.slots c.in_ok-id-in-None.ensures.length

pub invariant_of-self-in-None : goal.invariant_of-self-in-None
invariant_of-self-in-None c = (behind c).kept

pub returns-in_ok-id-in-None-clause-tried : goal.returns-in_ok-id-in-None-clause-tried
returns-in_ok-id-in-None-clause-tried c =
    ap (λ z. added (document_of c.grow.new.graph c.grow.new.slots c.self.inside.limit) z None) c.in_ok-id-in-None.ensures.id
    ∙ (behind c).tried ∙ ap (λ (z : Stored). attempt z.document c.args.offset (sentence_of c.args.sentence)) c.self.view_is

pub returns-in_ok-id-in-None-clause-notes : goal.returns-in_ok-id-in-None-clause-notes
returns-in_ok-id-in-None-clause-notes c = rw (← c.self.view_is) (behind c).notes

behind_zone : (c : goal.After-tip) → Behind (document_of c.self.inside.graph c.self.inside.slots c.self.inside.limit)
    (sentence_of c.args.sentence) c.args.offset c.self.inside.slots c.refold.new.graph c.refold.new.slots c.self.inside.limit
    c.in-Some-closes.stop (Some c.tip.result)
behind_zone c =
    let some : closes (kind_in c.args.sentence) (zone_in c.self.inside.graph.focus) ≡ Some c.in-Some-closes.stop =
    cc (c.closes.ensures, c.kind-kind.ensures, c.zone.ensures, c.in-Some-closes.is) in
    let full : c.is_full.result ≡ is_full (document_of c.self.inside.graph c.self.inside.slots c.self.inside.limit) =
    c.is_full.ensures ∙ ap (λ (z : Stored). is_full z.document) (sym c.self.view_is) in
    let allowed : refusal_by (kind_in c.args.sentence) c.self.inside.graph.focus
    (is_full (document_of c.self.inside.graph c.self.inside.slots c.self.inside.limit)) c.args.offset ≡ None =
    cc (c.refusal.ensures, c.kind-kind.ensures, c.in_default.is, full) in
    closes_zone c.self.inside.graph c.self.inside.slots c.self.inside.limit c.args.sentence c.args.offset c.self.invariant
    (c.documents_are_lines.ensures.added (document_of c.self.inside.graph c.self.inside.slots c.self.inside.limit) c.args.offset
    (sentence_of c.args.sentence) c.self.invariant.sound) c.in-Some-closes.stop some allowed c.refold.new.graph c.refold.new.slots
    c.in_ok-refold-in-Some-closes.ensures.line c.in_ok-refold-in-Some-closes.ensures.slots
    c.in_ok-refold-in-Some-closes.ensures.length c.tip.result (λ k. c.tip.ensures ∙ ap tip_of (sym k) ∙ c.documents_are_lines.ensures.tip
    (document_of c.refold.new.graph c.refold.new.slots c.self.inside.limit))

pub invariant_of-self-in-Some-closes : goal.invariant_of-self-in-Some-closes
invariant_of-self-in-Some-closes c = (behind_zone c).kept

pub returns-in_ok-refold-in-Some-closes-clause-tried : goal.returns-in_ok-refold-in-Some-closes-clause-tried
returns-in_ok-refold-in-Some-closes-clause-tried c = (behind_zone c).tried
    ∙ ap (λ (z : Stored). attempt z.document c.args.offset (sentence_of c.args.sentence)) c.self.view_is

pub returns-in_ok-refold-in-Some-closes-clause-notes : goal.returns-in_ok-refold-in-Some-closes-clause-notes
returns-in_ok-refold-in-Some-closes-clause-notes c = rw (← c.self.view_is) (behind_zone c).notes
