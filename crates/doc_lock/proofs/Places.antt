-- The views of the seats when one of them changes, and when one more comes.
use Rattle.std.proofs.Common.{◌≡◌, ◌≢◌, ◌⊎◌, ℕ, zero, suc, ◌<◌, true, List, [], ◌∷◌, ◌++◌, length, set, sym, refl, ap, ◌∙◌, subst, inl}
use Rattle.std.proofs.Common.{inr, ⊎_elim, arith}
use mathlib.Core.Logic.{dite}
use mathlib.Core.Option.{some, some-injective, some-ne-none}
use native.Mathlib.Decide.{ℕ_discrete}
use lib.ListN.{get_elem?}
use Rattle.atomic_table.proofs.Lists.{at_set, set_else, at_longer}
use Rattle.doc_lock.specs.declared.view.View.{View}
use Rattle.doc_lock.specs.Kept.{SomeLive}

module _ {E O : Type 0} (K : ℕ → View E O → Type 0) (vs : List (View E O)) (me : ℕ) (w : View E O) where
  -- what holds of the changed view at its place, and of each other one, holds of all
  pub seats_stay : K me w → ((j : ℕ) (d : View E O) → j ≢ me → get_elem? vs j ≡ some d → K j d)
      → (j : ℕ) (d : View E O) → get_elem? (set vs me w) j ≡ some d → K j d
  seats_stay mine others j d e = ⊎_elim
      (λ (t : (j ≡ me) × (w ≡ d)). subst (λ (x : ℕ × View E O). K x.0 x.1) (λ i. (sym t.0 i, t.1 i)) mine)
      (λ (t : (j ≢ me) × (get_elem? vs j ≡ some d)). others j d t.0 t.1) (at_set vs me j w d e)

module _ {E O : Type 0} where
  pub last_new : (l : List (View E O)) (a b : View E O) (j : ℕ) → get_elem? (l ++ a ∷ []) j ≡ some b → (get_elem? l j ≡ some b)
      ⊎ ((a ≡ b) × (j ≡ length l))
  last_new [] a b zero e = inr (some-injective a b e, refl)
  last_new [] a b (suc j) e = absurd (some-ne-none b (sym e))
  last_new (x ∷ xs) a b zero e = inl e
  last_new (x ∷ xs) a b (suc j) e = ⊎_elim (λ h. inl h) (λ (h : (a ≡ b) × (j ≡ length xs)). inr (h.0, ap suc h.1)) (last_new xs a b j e)

  inside : (l : List (View E O)) (j : ℕ) (b : View E O) → get_elem? l j ≡ some b → j < length l
  inside [] j b e = absurd (some-ne-none b (sym e))
  inside (x ∷ xs) zero b e = omega arith
  inside (x ∷ xs) (suc j) b e = let h = inside xs j b e in omega arith

  -- where there is one view, there is one place
  pub one_place : (l : List (View E O)) (i j : ℕ) (a b : View E O) → length l ≡ 1 → get_elem? l i ≡ some a → get_elem? l j ≡ some b → i ≡ j
  one_place l i j a b one p q = let x = inside l i a p in let y = inside l j b q in omega arith

  pub here_set : (l : List (View E O)) (i : ℕ) (a b : View E O) → get_elem? l i ≡ some a → get_elem? (set l i b) i ≡ some b
  here_set [] i a b e = absurd (some-ne-none a (sym e))
  here_set (x ∷ xs) zero a b e = refl
  here_set (x ∷ xs) (suc i) a b e = here_set xs i a b e

  -- two views at one place are one
  pub same_view : (vs : List (View E O)) (i j : ℕ) (v w : View E O) → get_elem? vs i ≡ some v → get_elem? vs j ≡ some w → i ≡ j → v ≡ w
  same_view vs i j v w p q e = some-injective v w (sym p ∙ (ap (get_elem? vs) e ∙ q))

module _ {E O : Type 0} (P : View E O → Type 0) (vs : List (View E O)) where
  -- a seat of which P holds is still there where the changed view has P if it had it,
  pub some_stays : (id : ℕ) (v w : View E O) → get_elem? vs id ≡ some v → w.live ≡ true
      → (P v → P w) → SomeLive vs P → SomeLive (set vs id w) P
  some_stays id v w at live on a = dite (ℕ_discrete a.seat id)
      (λ same. record {
        seat = id;
        view = w;
        at = here_set vs id v w at;
        live = live;
        has = on (subst P (same_view vs a.seat id a.view v a.at at same) a.has);
      })
      (λ other. record { seat = a.seat; view = a.view; at = set_else vs id a.seat w other ∙ a.at; live = a.live; has = a.has })

  -- where P didn't hold of the view that changed,
  pub some_other : (id : ℕ) (v w : View E O) → get_elem? vs id ≡ some v → (P v → ⊥)
      → SomeLive vs P → SomeLive (set vs id w) P
  some_other id v w at not a = record {
    seat = a.seat;
    view = a.view;
    at = set_else vs id a.seat w (λ same. not (subst P (same_view vs a.seat id a.view v a.at at same) a.has)) ∙ a.at;
    live = a.live;
    has = a.has;
  }

  -- and where one view more comes
  pub some_longer : (more : List (View E O)) → SomeLive vs P → SomeLive (vs ++ more) P
  some_longer more a = record { seat = a.seat; view = a.view; at = at_longer vs more a.seat a.view a.at; live = a.live; has = a.has }
