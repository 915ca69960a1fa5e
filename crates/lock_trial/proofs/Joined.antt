-- Seats that are joined back one by one, from the last number to the first.
use Rattle.std.proofs.Common.{◌≡◌, ℕ, ◌+◌, ◌<◌, List, [], ◌∷◌, ◌++◌, inl, inr, ⊎_elim, length, get_or, ◌∙◌, refl, sym, subst}
use Rattle.std.proofs.Common.{length-append, arith, ap, take, drop, Result, Ok, Err, IfOk}
use Rattle.std.proofs.lemmas.List.{append-nil}
use Rattle.std.proofs.Math.Seq.{take-length, drop-length}
use mathlib.Core.Logic.{dite}
use native.Mathlib.Decide.{ℕ_discrete}
use Rattle.std.proofs.Math.ListN.{get_or-append}
use Rattle.std.specs.Result.{result_and}
use Rattle.base_core.specs.declared.no_memory.NoMemory.{NoMemory}
use Rattle.doc_lock.specs.declared.view.Folded.{Folded}
use Rattle.doc_lock.specs.declared.view.View.{View}
use Rattle.base_core.specs.Lists.{Begins}
use Rattle.doc_lock.specs.Lists.{Each}
use Rattle.doc_lock.specs.Told.{Covers, Has}
use Rattle.doc_lock.specs.Views.{folded}
use Rattle.doc_lock.proofs.Lists.{each_append}
use Rattle.lock_trial.specs.declared.notes.Note.{Note}
use Rattle.lock_trial.specs.Noting.{HasWritten, notes_by, of_seat}

module _ {E : Type 0} where
  -- each number behind the first and before the second was joined
  abbrev pub HasBetween : ℕ → ℕ → List (Folded E) → Type 0
  HasBetween left made joined = (k : ℕ) → left < k → k < made → Has k joined

module _ {E O : Type 0} where
  -- each number from n + 1 on was joined into the seat
  abbrev pub HasFrom : ℕ → View E O → Type 0
  HasFrom n v = HasBetween n v.made v.joined

module _ {E : Type 0} where
  has_append : (k : ℕ) (xs ys : List (Folded E)) → Has k xs → Has k (xs ++ ys)
  has_append k [] ys h = absurd h
  has_append k (x ∷ xs) ys h = ⊎_elim (λ (e : x.number ≡ k). inl e) (λ (t : Has k xs). inr (has_append k xs ys t)) h

  -- one number more was joined
  pub has_more : (left made : ℕ) (p : Folded E) (xs ys : List (Folded E)) → p.number ≡ left + 1
      → HasBetween (left + 1) made xs → HasBetween left made (p ∷ (xs ++ ys))
  has_more left made p xs ys is old k low high =
      dite (ℕ_discrete k p.number) (λ e. inl (sym e)) (λ ne. inr (has_append k xs ys (old k (omega arith) high)))

module _ {A : Type 0} where
  at_end : (xs : List A) (x : A) → get_or (xs ++ x ∷ []) (length xs) x ≡ x
  at_end [] x = refl
  at_end (y ∷ ys) x = at_end ys x

  module _ (P : ℕ → A → Type 0) (l xs : List A) (x : A) (e : l ≡ xs ++ x ∷ [])
      (h : (i : ℕ) (d : A) → i < length l → P i (get_or l i d)) where
    -- what holds of each element holds of each that is left
    pub all_left : (i : ℕ) (d : A) → i < length xs → P i (get_or xs i d)
    all_left i d lt = subst (P i) (ap (λ z. get_or z i d) e
        ∙ get_or-append xs (x ∷ []) d i lt) (h i d (omega (arith, ap length e, length-append xs (x ∷ []))))

    -- and of the last one
    pub last_has : P (length xs) x
    last_has = subst (P (length xs)) (ap (λ z. get_or z (length xs) x) e
        ∙ at_end xs x) (h (length xs) x (omega (arith, ap length e, length-append xs (x ∷ []))))

  -- what holds of what a slice of a whole vector wrote back holds of the vector
  pub written_back : (P : List A → Type 0) (n : ℕ) (new old : List A) → length new ≡ n → length old ≡ n → P new
      → P (take n (new ++ drop (length new) old))
  written_back P n new old e f p = let whole : take n (new ++ drop (length new) old) ≡ new =
      ap (λ k. take n (new ++ drop k old)) (e ∙ sym f)
      ∙ (ap (λ (l : List A). take n (new ++ l)) (drop-length old)
      ∙ (ap (take n) (append-nil new) ∙ (ap (λ k. take k new) (sym e) ∙ take-length new))) in
      subst P (sym whole) p

-- the seat had written so many notes
abbrev Wrote : ℕ → Folded Note → Type 0
Wrote n p = p.mine ≡ notes_by p.number n

-- where all that were joined wrote all their notes, and so did the next, so did all
pub all_wrote : (all wrote : Result (Unit {0}) NoMemory) (Q : ℕ → Type 0) (v w : View Note ℕ)
    → IfOk all (λ _. (n : ℕ) → Q n → Each (Wrote n) v.joined) → ((n : ℕ) → Q n → HasWritten n wrote w × (w.joined ≡ []))
    → IfOk (result_and all wrote) (λ _. (n : ℕ) → Q n → Each (Wrote n) (folded w ∷ (v.joined ++ w.joined)))
all_wrote (Ok _) (Ok _) Q v w h k = λ n q. (
  (k n q).0,
  each_append (Wrote n) v.joined w.joined (h n q) (subst (Each (Wrote n)) (sym (k n q).1) tt),
)
all_wrote (Ok _) (Err _) Q v w h k = tt
all_wrote (Err _) _ Q v w h k = tt

module _ (n k : ℕ) (log : List Note) where
  -- the list has of each number that was joined just the notes of that seat
  joined_wrote : (ps : List (Folded Note)) → Has k ps
      → Each (λ p. Begins p.seen log × (of_seat p.number log ≡ p.mine)) ps → Each (Wrote n) ps → of_seat k log ≡ notes_by k n
  joined_wrote [] h own wrote = absurd h
  joined_wrote (p ∷ ps) h own wrote = ⊎_elim (λ (e : p.number ≡ k). subst (λ j. of_seat j log ≡ notes_by j n) e (own.0.1 ∙ wrote.0))
      (λ (t : Has k ps). joined_wrote ps t own.1 wrote.1) h

  pub seats_wrote : (v : View Note ℕ) → v.number ≡ 0 → of_seat v.number log ≡ v.mine
      → v.mine ≡ notes_by v.number n → Covers v
      → Each (λ p. Begins p.seen log × (of_seat p.number log ≡ p.mine)) v.joined → Each (Wrote n) v.joined → k < v.made
      → of_seat k log ≡ notes_by k n
  seats_wrote v zeroth own mine all joined wrote low =
      dite (ℕ_discrete k 0) (λ e. subst (λ j. of_seat j log ≡ notes_by j n) (zeroth ∙ sym e) (own ∙ mine))
      (λ ne. joined_wrote v.joined (all k (omega arith) low) joined wrote)
