-- What a note adds to the list, and to the entries of its seat.
use Rattle.std.proofs.Common.{◌≡◌, ℕ, ◌+◌, Result, Ok, Err, MatchResult, List, [], ◌∷◌, ◌++◌, refl, sym, ap, ◌∙◌, arith}
use Rattle.std.proofs.lemmas.List.{append-nil}
use Rattle.std.proofs.lemmas.List.FromFn.{map-range_with_len_more}
use Rattle.doc_lock.specs.Lists.{only, Adds}
use Rattle.doc_lock.proofs.Lists.{adds_own}
use Rattle.lock_trial.specs.declared.notes.Note.{Note}
use Rattle.lock_trial.specs.Noting.{note, notes_by}

abbrev by : Note → ℕ
by e = e.by

module _ (n what : ℕ) (log now : List Note) where
  abbrev one_more : now ≡ log ++ note n what ∷ [] → Adds by n log now
  one_more more = (note n what ∷ [], more, (refl, tt))

  pub adds_noted : {A B : Type 0} (r : Result A B)
      → MatchResult r (λ _. now ≡ log ++ note n what ∷ []) (λ _. now ≡ log) → Adds by n log now
  adds_noted (Ok _) more = one_more more
  adds_noted (Err _) same = ([], same ∙ sym (append-nil log), tt)

  pub mine_grows : {A B : Type 0} (r : Result A B) (mine mine' : List Note) → only by n log ≡ mine
      → mine' ≡ only by n now
      → MatchResult r (λ _. now ≡ log ++ note n what ∷ []) (λ _. now ≡ log)
      → MatchResult r (λ _. mine' ≡ mine ++ note n what ∷ []) (λ _. mine' ≡ mine)
  mine_grows (Ok _) mine mine' own is more = is
      ∙ (adds_own by n log now (one_more more) ∙ ap (λ l. l ++ note n what ∷ []) own)
  mine_grows (Err _) mine mine' own is same = is ∙ (ap (only by n) same ∙ own)

-- a seat that wrote so many notes writes the next
pub writes_more : (by k n : ℕ) (mine mine' : List Note) → k ≡ by → mine ≡ notes_by by n → mine' ≡ mine ++ note k n ∷ []
    → mine' ≡ notes_by by (n + 1)
writes_more by k n mine mine' same is more = more
    ∙ (ap (λ (p : List Note × ℕ). p.0 ++ note p.1 n ∷ []) (λ i. (is i, same i))
    ∙ sym (map-range_with_len_more (note by) 0 n n (omega arith)))
