use Rattle.std.proofs.Common.{◌≡◌, ℕ, [], ◌∷◌, ◌++◌, MatchResult, List, sym, ap, ◌∙◌, subst}
use Rattle.doc_lock.specs.Lists.{Adds, only}
use Rattle.lock_trial.specs.declared.notes.Note.{Note}
use Rattle.lock_trial.specs.Noting.{note}
use Rattle.lock_trial.proofs.Noted.{adds_noted, mine_grows}
use Rattle.lock_trial.proofs.writing.try_note.Goals as goal

pub give_back-requires-clause-grown : goal.give_back-requires-clause-grown
give_back-requires-clause-grown c = let got = c.in-Held.ensures.tried.1.1 in let now = c.add-added.new.self.notes.items in
    let log = c.state.result.now.notes.items in let w = c.try_hold.new.seat.view in
    let number : c.number-number.result ≡ w.number = c.number-number.ensures.number ∙ sym (ap (λ v. v.number) got) in
    let seen : log ≡ w.seen = ap (λ s. s.notes.items) c.state.ensures.value ∙ sym (ap (λ v. v.seen) got) in
    subst (λ (p : ℕ × List Note). Adds (λ (e : Note). e.by) p.0 p.1 now) (λ i. (number i, seen i))
    (adds_noted c.number-number.result c.args.what log now c.add-added.result c.add-added.ensures.notes)

pub returns-in-Held-clause-mine : goal.returns-in-Held-clause-mine
returns-in-Held-clause-mine c = let got = c.in-Held.ensures.tried.1 in let after = c.give_back.ensures.seen in
    let state = c.in-Held.held.state in let now = c.add-added.new.self in
    let n : ℕ = c.args.seat.now.view.number in let k : c.number-number.result ≡ n = c.number-number.ensures.number in
    let at : c.try_hold.new.seat.view.number ≡ n = ap (λ v. v.number) got.1 in
    let start : c.state.result.now.notes.items ≡ state.notes.items = ap (λ s. s.notes.items) c.state.ensures.value in
    mine_grows n c.args.what state.notes.items now.notes.items c.add-added.result _ _ got.0.own
    (ap (λ v. v.mine) after ∙ ap (λ (j : ℕ). only (λ (e : Note). e.by) j now.notes.items) at)
    (subst (λ (p : List Note × ℕ). MatchResult c.add-added.result (λ _. now.notes.items ≡ p.0 ++ note p.1 c.args.what ∷ [])
    (λ _. now.notes.items ≡ p.0)) (λ i. (start i, k i)) c.add-added.ensures.notes)
