use Rattle.std.proofs.Common.{◌≡◌, ◌∙◌, ◌^◌, ap, nat_lt, not, sym, subst, true}
use Rattle.std.proofs.lemmas.Bool.{le-ltb}
use Rattle.serapi_ans.specs.declared.line.Exn.TheVariants as exn
use Rattle.doc_theory.specs.Documents.{Document}
use Rattle.doc_theory.specs.Editing.{attempt, is_full, refused}
use Rattle.doc_core.proofs.Scripts.{full-by-id, full-by-room, refuses}
use Rattle.doc_core.proofs.script.Script.is_full.Goals as goal

pub returns-then-not-has_room-clause-full : goal.returns-then-not-has_room-clause-full
returns-then-not-has_room-clause-full c =
    let s = c.self.inside in
    ap not (le-ltb c.len.result s.limit c.if-not-has_room.true) ∙ sym (subst (λ (d : Document). is_full d ≡ true) c.self.view_is
    (full-by-room s.entries s.next s.limit c.len.result c.len.ensures c.if-not-has_room.true))

pub returns-then-not-has_room-clause-refuses : goal.returns-then-not-has_room-clause-refuses
returns-then-not-has_room-clause-refuses c =
    let s = c.self.inside in
    λ full p x kind. subst (λ (d : Document). attempt d p x ≡ refused (exn.TooMany p)) c.self.view_is
    (refuses s.entries s.next s.limit p x (full-by-room s.entries s.next s.limit c.len.result c.len.ensures c.if-not-has_room.true) kind)

pub returns-else-not-has_room-clause-full : goal.returns-else-not-has_room-clause-full
returns-else-not-has_room-clause-full c =
    let s = c.self.inside in
    sym (subst (λ (d : Document). is_full d ≡ not (nat_lt s.next (2 ^ 62))) c.self.view_is
    (full-by-id s.entries s.next s.limit c.len.result c.len.ensures c.if-not-has_room.false))
