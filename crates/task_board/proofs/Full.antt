-- The slots that have rows.
use Rattle.std.proofs.Common.{◌≡◌, ℕ, zero, suc, ◌+◌, ◌-◌, ◌<◌, ◌≤◌, Bool, true, false, cond, List, [], ◌∷◌, ◌++◌, length, get_or, set, take, Some, None, refl, sym, ap, ◌∙◌, subst, arith, append-nil}
use Rattle.std.proofs.lemmas.List.Elements.{filter_more}
use Rattle.std.specs.Prelude.{filter_map, is_some, replicate}
use Rattle.task_board.specs.declared.standing.Standing.{Standing}
use Rattle.task_board.specs.declared.slot.Slot.{Slot}
use Rattle.task_board.specs.Places.{nothing}
use Rattle.task_board.specs.Slots.{row, row_in, rows_of, full, is_full, key, Rising, Below, Marks}
use Rattle.task_board.proofs.Marked.{marks-push, marks-none}

module _ {T R : Type 0} where
  pub rows-full : (ss : List (Slot T R)) → rows_of (full ss) ≡ rows_of ss
  rows-full [] = refl
  rows-full (s ∷ ss) = (elim s.work as (λ w. s.work ≡ w → filter_map row_in (cond (is_some w) (s ∷ full ss) (full ss)) ≡ filter_map row_in (record s { work = w } ∷ ss)) [
    | None ↦ λ e. rows-full ss
    | Some v ↦ λ e. rw e (ap (λ rs. row s v ∷ rs) (rows-full ss))
  ]) refl

  lower : (lo hi : ℕ) (ss : List (Slot T R)) → lo ≤ hi → Rising hi ss → Rising lo ss
  lower lo hi [] le r = tt
  lower lo hi (s ∷ ss) le r = (omega (arith, r.0), r.1)

  pub rising-full : (lo : ℕ) (ss : List (Slot T R)) → Rising lo ss → Rising lo (full ss)
  rising-full lo [] r = tt
  rising-full lo (s ∷ ss) r = elim (is_full s) as (λ y. Rising lo (cond y (s ∷ full ss) (full ss))) [
    | true ↦ (r.0, rising-full (suc s.number) ss r.1)
    | false ↦ lower lo (suc s.number) (full ss) (omega (arith, r.0)) (rising-full (suc s.number) ss r.1)
  ]

  pub below-full : (hi : ℕ) (ss : List (Slot T R)) → Below hi ss → Below hi (full ss)
  below-full hi [] b = tt
  below-full hi (s ∷ ss) b = elim (is_full s) as (λ y. Below hi (cond y (s ∷ full ss) (full ss))) [
    | true ↦ (b.0, below-full hi ss b.1)
    | false ↦ below-full hi ss b.1
  ]

  pub full-less : (i : ℕ) (ss : List (Slot T R)) (s : Slot T R) → i < length ss → s ≡ get_or ss i s → is_full s ≡ true → length (full (take i ss)) < length (full ss)
  full-less i [] s lt e f = absurd (omega arith)
  full-less zero (x ∷ xs) s lt e f = let same : is_full x ≡ true = ap is_full (sym e) ∙ f in rw same (omega arith)
  full-less (suc i) (x ∷ xs) s lt e f = let on = full-less i xs s (omega arith) e f in
      elim (is_full x) as (λ y. length (cond y (x ∷ full (take i xs)) (full (take i xs))) < length (cond y (x ∷ full xs) (full xs))) [
        | true ↦ omega (arith, on)
        | false ↦ on
      ]

  pub full-more : (i : ℕ) (ss : List (Slot T R)) (s : Slot T R) → i < length ss → s ≡ get_or ss i s → is_full s ≡ true → full (take (i + 1) ss) ≡ full (take i ss) ++ s ∷ []
  full-more i ss s lt e f = let more = filter_more is_full ss i s lt in rw (← e, f) at more

  pub full-same : (i : ℕ) (ss : List (Slot T R)) (s : Slot T R) → i < length ss → s ≡ get_or ss i s → is_full s ≡ false → full (take (i + 1) ss) ≡ full (take i ss)
  full-same i ss s lt e f = let more = filter_more is_full ss i s lt in (rw (← e, f) at more) ∙ append-nil (full (take i ss))

  module _ (p : Standing R → Bool) (ss : List (Slot T R)) where
    pub start-full : (ns : List ℕ) (places : ℕ) → ns ≡ replicate places nothing → Marks p (full (take 0 ss)) ns
    start-full ns places e = subst (λ ms. Marks p (full (take 0 ss)) ms) (sym e) (marks-none p (full (take 0 ss)) places refl)

    module _ (i : ℕ) (s : Slot T R) (lt : i < length ss) (e : s ≡ get_or ss i s) (f : is_full s ≡ true) where
      pub step-full : (place : ℕ) (ns ns' : List ℕ) → Marks p (full (take i ss)) ns → place ≡ length (full (take i ss))
          → length (full ss) ≤ length ns → ns' ≡ set ns place (key p s) → Marks p (full (take (i + 1) ss)) ns'
      step-full place ns ns' m at few put = rw (put, at, full-more i ss s lt e f)
          (marks-push p (full (take i ss)) s ns m (let less = full-less i ss s lt e f in omega (arith, less, few)))
