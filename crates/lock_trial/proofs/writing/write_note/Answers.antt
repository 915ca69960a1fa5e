use Rattle.std.proofs.Common.{◌≡◌, ℕ, [], ◌∷◌, ◌++◌, MatchResult, List, ap, ◌∙◌, subst}
use Rattle.doc_lock.specs.Lists.{only}
use Rattle.lock_trial.specs.declared.notes.Note.{Note}
use Rattle.lock_trial.specs.Noting.{note}
use Rattle.lock_trial.proofs.Noted.{mine_grows}
use Rattle.lock_trial.proofs.writing.write_note.Goals as goal

pub returns-clause-mine : goal.returns-clause-mine
returns-clause-mine g c = let before = c.hold-held.ensures.held in let after = c.give_back.ensures.seen in
    let state = c.hold-held.result.state in let now = c.add-added.new.self in
    let n : ℕ = c.args.seat.now.view.number in let k : c.number-number.result ≡ n = c.number-number.ensures.number in
    let at : c.hold-held.new.seat.view.number ≡ n = ap (λ v. v.number) before.2 in
    let start : c.state.result.now.notes.items ≡ state.notes.items = ap (λ s. s.notes.items) c.state.ensures.value in
    mine_grows n c.args.what state.notes.items now.notes.items c.add-added.result _ _ before.0.own
    (ap (λ v. v.mine) after ∙ ap (λ (j : ℕ). only (λ (e : Note). e.by) j now.notes.items) at)
    (subst (λ (p : List Note × ℕ). MatchResult c.add-added.result (λ _. now.notes.items ≡ p.0 ++ note p.1 c.args.what ∷ [])
    (λ _. now.notes.items ≡ p.0)) (λ i. (start i, k i)) c.add-added.ensures.notes)
