-- The rows of slots in the order of their numbers: what is found, and what a change of one slot changes.
use Rattle.std.proofs.Common.{◌≡◌, ◌≢◌, ℕ, zero, suc, ◌-◌, ◌<◌, ◌≤◌, Bool, true, false, not, cond, ◌||◌, inl, inr, List, [], ◌∷◌, length, get_or, set, Option, Some, None, refl, sym, ap, ◌∙◌, subst, arith, eqb-true, eq-eqb, eqb}
use Rattle.std.specs.Prelude.{find, filter_map, slice_get, nat_eq, is_some}
use Rattle.std.proofs.lemmas.Option.{slice_get-get_or, slice_get_past, slice_get_cases, get_or_from_slice_get}
use Rattle.task_board.specs.declared.standing.Standing.{Standing}
use Rattle.task_board.specs.declared.slot.Slot.{Slot}
use Rattle.task_board.specs.Rows.{Row, stand, is_held, is_held_by}
use Rattle.task_board.specs.Slots.{row, row_in, rows_of, restood, Rising, Below, Parts, IsAt}

-- ---- tests of numbers

pub eqb-same : (n : ℕ) → nat_eq n n ≡ true
eqb-same n = eq-eqb n n refl

pub eqb-apart : (a b : ℕ) → (a ≡ b → ⊥) → nat_eq a b ≡ false
eqb-apart a b h = (elim (nat_eq a b) as (λ y. nat_eq a b ≡ y → y ≡ false) [
  | true ↦ λ t. absurd (h (eqb-true a b t))
  | false ↦ λ t. refl
]) refl

a_value : {X : Type 0} (o : Option X) → is_some o ≡ true → (x : X) × (o ≡ Some x)
a_value None h = absurd (let clash : false ≡ true = h in cc)
a_value (Some x) h = (x, refl)

pub no_value : {X : Type 0} (o : Option X) → is_some o ≡ false → o ≡ None
no_value None h = refl
no_value (Some x) h = absurd (let clash : true ≡ false = h in cc)

module _ {T R : Type 0} where
  -- ---- numbers that rise

  pub weaker : (lo lo' : ℕ) (ss : List (Slot T R)) → lo' ≤ lo → Rising lo ss → Rising lo' ss
  weaker lo lo' [] le r = tt
  weaker lo lo' (s ∷ ss) le r = (omega (arith, r.0), r.1)

  rising-at : (lo i : ℕ) (ss : List (Slot T R)) (s : Slot T R) → Rising lo ss → slice_get ss i ≡ Some s → lo ≤ s.number
  rising-at lo i [] s r h = absurd (let no : None ≡ Some s = h in cc)
  rising-at lo zero (x ∷ xs) s r h = let e : x ≡ s = cc in subst (λ y. lo ≤ y.number) e r.0
  rising-at lo (suc i) (x ∷ xs) s r h = let on = rising-at (suc x.number) i xs s r.1 h in omega (arith, r.0, on)

  rising-get : (lo i : ℕ) (ss : List (Slot T R)) (d : Slot T R) → Rising lo ss → i < length ss → lo ≤ (get_or ss i d).number
  rising-get lo i [] d r h = absurd (omega arith)
  rising-get lo zero (x ∷ xs) d r h = r.0
  rising-get lo (suc i) (x ∷ xs) d r h = let on = rising-get (suc x.number) i xs d r.1 (omega arith) in omega (arith, r.0, on)

  -- ---- rows whose number is another

  find-beyond : (n lo : ℕ) (ss : List (Slot T R)) → n < lo → Rising lo ss → find (λ (r : Row T R). nat_eq n r.number) (rows_of ss) ≡ None
  find-beyond n lo [] lt r = refl
  find-beyond n lo (s ∷ ss) lt r = let on = find-beyond n (suc s.number) ss (omega (arith, r.0)) r.1 in
      let no : nat_eq n s.number ≡ false = eqb-apart n s.number (λ e. omega (arith, e, r.0, lt)) in
      (elim s.work as (λ w. find (λ (r : Row T R). nat_eq n r.number) (filter_map row_in (record s { work = w } ∷ ss)) ≡ None) [
        | None ↦ on
        | Some w ↦ rw no on
      ])

  stand-beyond : (n lo : ℕ) (x : Standing R) (ss : List (Slot T R)) → n < lo → Rising lo ss → stand n x (rows_of ss) ≡ rows_of ss
  stand-beyond n lo x [] lt r = refl
  stand-beyond n lo x (s ∷ ss) lt r = let on = stand-beyond n (suc s.number) x ss (omega (arith, r.0)) r.1 in
      let no : nat_eq n s.number ≡ false = eqb-apart n s.number (λ e. omega (arith, e, r.0, lt)) in
      (elim s.work as (λ w. stand n x (filter_map row_in (record s { work = w } ∷ ss)) ≡ filter_map row_in (record s { work = w } ∷ ss)) [
        | None ↦ on
        | Some w ↦ rw no (ap (λ rs. row s w ∷ rs) on)
      ])

  -- ---- the row at a place

  pub find-at : (lo i : ℕ) (ss : List (Slot T R)) (s : Slot T R) (w : T) → Rising lo ss → slice_get ss i ≡ Some s → s.work ≡ Some w
      → find (λ (r : Row T R). nat_eq s.number r.number) (rows_of ss) ≡ Some (row s w)
  find-at lo i [] s w r h k = absurd (let no : None ≡ Some s = h in cc)
  find-at lo zero (x ∷ xs) s w r h k = let e : x ≡ s = cc in rw (e, k, eqb-same s.number) refl
  find-at lo (suc i) (x ∷ xs) s w r h k = let on = find-at (suc x.number) i xs s w r.1 h k in
      let above = rising-at (suc x.number) i xs s r.1 h in
      let no : nat_eq s.number x.number ≡ false = eqb-apart s.number x.number (λ e. omega (arith, e, above)) in
      (elim x.work as (λ v. find (λ (r : Row T R). nat_eq s.number r.number) (filter_map row_in (record x { work = v } ∷ xs)) ≡ Some (row s w)) [
        | None ↦ on
        | Some v ↦ rw no on
      ])

  pub stand-here : (lo i : ℕ) (x : Standing R) (ss : List (Slot T R)) (s : Slot T R) → Rising lo ss → slice_get ss i ≡ Some s
      → rows_of (set ss i (restood x s)) ≡ stand s.number x (rows_of ss)
  stand-here lo i x [] s r h = absurd (let no : None ≡ Some s = h in cc)
  stand-here lo zero x (y ∷ ys) s r h = let e : y ≡ s = cc in let on = stand-beyond y.number (suc y.number) x ys (omega arith) r.1 in
      rw (← e) (elim y.work as (λ v. filter_map row_in (restood x (record y { work = v }) ∷ ys) ≡ stand y.number x (filter_map row_in (record y { work = v } ∷ ys))) [
        | None ↦ sym on
        | Some v ↦ rw (eqb-same y.number) (ap (λ rs. row (restood x y) v ∷ rs) (sym on))
      ])
  stand-here lo (suc i) x (y ∷ ys) s r h = let on = stand-here (suc y.number) i x ys s r.1 h in
      let above = rising-at (suc y.number) i ys s r.1 h in
      let no : nat_eq s.number y.number ≡ false = eqb-apart s.number y.number (λ e. omega (arith, e, above)) in
      (elim y.work as (λ v. filter_map row_in (record y { work = v } ∷ set ys i (restood x s)) ≡ stand s.number x (filter_map row_in (record y { work = v } ∷ ys))) [
        | None ↦ on
        | Some v ↦ rw no (ap (λ rs. row y v ∷ rs) on)
      ])

  -- ---- rows of a number, and whether one is held

  module _ (seat : ℕ) where
    pub held-none : (n : ℕ) (rows : List (Row T R)) → find (λ (r : Row T R). nat_eq n r.number) rows ≡ None → is_held seat n rows ≡ false
    held-none n [] h = refl
    held-none n (x ∷ xs) h = (elim (nat_eq n x.number) as (λ y. nat_eq n x.number ≡ y → is_held seat n (x ∷ xs) ≡ false) [
      | true ↦ λ t. absurd (let no : Some x ≡ None = rw t at h in cc)
      | false ↦ λ t. rw t (held-none n xs (rw t at h))
    ]) refl

    held-beyond : (n lo : ℕ) (ss : List (Slot T R)) → n < lo → Rising lo ss → is_held seat n (rows_of ss) ≡ false
    held-beyond n lo ss lt r = held-none n (rows_of ss) (find-beyond n lo ss lt r)

    pub held-at : (lo i : ℕ) (ss : List (Slot T R)) (s : Slot T R) (w : T) → Rising lo ss → slice_get ss i ≡ Some s → s.work ≡ Some w
        → is_held seat s.number (rows_of ss) ≡ is_held_by seat s.standing
    held-at lo i [] s w r h k = absurd (let no : None ≡ Some s = h in cc)
    held-at lo zero (x ∷ xs) s w r h k = let e : x ≡ s = cc in let on = held-beyond x.number (suc x.number) xs (omega arith) r.1 in
        rw (← e, rw (← e) at k, eqb-same x.number, on)
        (elim (is_held_by seat x.standing) as (λ y. (y || false) ≡ y) [ true ↦ refl | false ↦ refl ])
    held-at lo (suc i) (x ∷ xs) s w r h k = let on = held-at (suc x.number) i xs s w r.1 h k in
        let above = rising-at (suc x.number) i xs s r.1 h in
        let no : nat_eq s.number x.number ≡ false = eqb-apart s.number x.number (λ e. omega (arith, e, above)) in
        (elim x.work as (λ v. is_held seat s.number (filter_map row_in (record x { work = v } ∷ xs)) ≡ is_held_by seat s.standing) [
          | None ↦ on
          | Some v ↦ rw no on
        ])

  -- ---- a number that no row has

  -- no row has a number where the slots below it, and then one that is another's or empty, stand before all others
  pub absent : (n lo i : ℕ) (ss : List (Slot T R)) → Rising lo ss
      → ((k : ℕ) (s : Slot T R) → k < i → slice_get ss k ≡ Some s → s.number < n)
      → ((k : ℕ) (s : Slot T R) → i ≤ k → slice_get ss k ≡ Some s → n ≤ s.number)
      → ((s : Slot T R) (w : T) → slice_get ss i ≡ Some s → s.work ≡ Some w → n ≢ s.number)
      → find (λ (r : Row T R). nat_eq n r.number) (rows_of ss) ≡ None
  absent n lo i [] r before behind here = refl
  absent n lo zero (s ∷ ss) r before behind here =
      let le : n ≤ s.number = behind 0 s (omega arith) refl in
      let on = find-beyond n (suc s.number) ss (omega (arith, le)) r.1 in
      let no : (w : T) → s.work ≡ Some w → nat_eq n s.number ≡ false = λ w k. eqb-apart n s.number (here s w refl k) in
      (elim s.work as (λ w. s.work ≡ w → find (λ (r : Row T R). nat_eq n r.number) (filter_map row_in (record s { work = w } ∷ ss)) ≡ None) [
        | None ↦ λ k. on
        | Some w ↦ λ k. rw (no w k) on
      ]) refl
  absent n lo (suc i) (s ∷ ss) r before behind here =
      let lt : s.number < n = before 0 s (omega arith) refl in
      let on = absent n (suc s.number) i ss r.1 (λ k t l h. before (suc k) t (omega (arith, l)) h) (λ k t l h. behind (suc k) t (omega (arith, l)) h) here in
      let no : nat_eq n s.number ≡ false = eqb-apart n s.number (λ e. omega (arith, e, lt)) in
      (elim s.work as (λ w. find (λ (r : Row T R). nat_eq n r.number) (filter_map row_in (record s { work = w } ∷ ss)) ≡ None) [
        | None ↦ on
        | Some w ↦ rw no on
      ])

  -- ---- places

  module _ (n : ℕ) (d : Slot T R) where
    pub partitioned : (lo : ℕ) (ss : List (Slot T R)) → Rising lo ss → (i j : ℕ) → i ≤ j → j < length ss → (get_or ss j d).number < n
        → (get_or ss i d).number < n
    partitioned lo [] r i j le lt h = absurd (omega arith)
    partitioned lo (s ∷ ss) r zero zero le lt h = h
    partitioned lo (s ∷ ss) r zero (suc j) le lt h =
        let above = rising-get (suc s.number) j ss d r.1 (omega arith) in omega (arith, above, h)
    partitioned lo (s ∷ ss) r (suc i) zero le lt h = absurd (omega arith)
    partitioned lo (s ∷ ss) r (suc i) (suc j) le lt h = partitioned (suc s.number) ss r.1 i j (omega arith) (omega arith) h

  -- an element at an index, in both spellings
  pub got : (i : ℕ) (ss : List (Slot T R)) (s : Slot T R) → i < length ss → s ≡ get_or ss i s → slice_get ss i ≡ Some s
  got i ss s lt e = slice_get-get_or ss i s lt ∙ ap Some (sym e)

  inside : (i : ℕ) (ss : List (Slot T R)) (s : Slot T R) → slice_get ss i ≡ Some s → i < length ss
  inside i ss s h = elim (slice_get_cases ss i).1 [
    | inl x ↦ x.1
    | inr p ↦ absurd (let no : None ≡ Some s = sym p.1 ∙ h in cc)
  ]

  pub parts : (n i : ℕ) (ss : List (Slot T R))
      → ((k : ℕ) (d : Slot T R) → 0 ≤ k → k < i → (get_or ss k d).number < n)
      → ((k : ℕ) (d : Slot T R) → i ≤ k → k < length ss → n ≤ (get_or ss k d).number)
      → Parts ss i n
  parts n i ss before behind = record {
    before = λ k s lt h. subst (λ y. y.number < n) (get_or_from_slice_get ss k s s h) (before k s (omega arith) lt);
    behind = λ k s le h. subst (λ y. n ≤ y.number) (get_or_from_slice_get ss k s s h) (behind k s le (inside k ss s h));
  }

  -- no row has the number of a place at the end, of another's place, or of an empty one
  pub absent-past : (n i : ℕ) (ss : List (Slot T R)) → Rising 0 ss → Parts ss i n → length ss ≤ i → find (λ (r : Row T R). nat_eq n r.number) (rows_of ss) ≡ None
  absent-past n i ss r p past = absent n 0 i ss r p.before p.behind (λ s w h k. absurd (let no : None ≡ Some s = sym (slice_get_past ss i past) ∙ h in cc))

  pub absent-other : (n i : ℕ) (ss : List (Slot T R)) (s : Slot T R) → Rising 0 ss → Parts ss i n → slice_get ss i ≡ Some s → s.number ≢ n → find (λ (r : Row T R). nat_eq n r.number) (rows_of ss) ≡ None
  absent-other n i ss s r p h off = absent n 0 i ss r p.before p.behind (λ t w h' k e. off (let same : s ≡ t = cc in ap (λ y. y.number) same ∙ sym e))

  pub absent-empty : (n i : ℕ) (ss : List (Slot T R)) (s : Slot T R) → Rising 0 ss → Parts ss i n → slice_get ss i ≡ Some s → s.work ≡ None → find (λ (r : Row T R). nat_eq n r.number) (rows_of ss) ≡ None
  absent-empty n i ss s r p h off = absent n 0 i ss r p.before p.behind (λ t w h' k e. absurd (let same : s ≡ t = cc in let clash : None ≡ Some w = sym off ∙ ap (λ y. y.work) same ∙ k in cc))

  pub at : (n i : ℕ) (ss : List (Slot T R)) (s : Slot T R) → slice_get ss i ≡ Some s → s.number ≡ n → is_some s.work ≡ true → IsAt ss i n
  at n i ss s h e full = let w = a_value s.work full in record { slot = s; at = h; numbered = e; work = w.0; works = w.1 }

  pub held-here : (seat n i : ℕ) (ss : List (Slot T R)) (s : Slot T R) → Rising 0 ss → (a : IsAt ss i n) → s ≡ get_or ss i s → is_held seat n (rows_of ss) ≡ is_held_by seat s.standing
  held-here seat n i ss s r a e =
      let same : a.slot ≡ s = sym (e ∙ get_or_from_slice_get ss i a.slot s a.at) in
      rw (← a.numbered, ← same) (held-at seat 0 i ss a.slot a.work r a.at a.works)

  -- ---- a row that passes a test

  pub passes : (q : Row T R → Bool) (rows : List (Row T R)) (r : Row T R) → find q rows ≡ Some r → q r ≡ true
  passes q [] r h = absurd (let clash : None ≡ Some r = h in cc)
  passes q (x ∷ xs) r h = (elim (q x) as (λ y. q x ≡ y → cond y (Some x) (find q xs) ≡ Some r → q r ≡ true) [
    | true ↦ λ t h. let e : x ≡ r = cc in subst (λ z. q z ≡ true) e t
    | false ↦ λ t h. passes q xs r h
  ]) refl h

  above-found : (lo : ℕ) (q : Row T R → Bool) (ss : List (Slot T R)) (r : Row T R) → Rising lo ss → find q (rows_of ss) ≡ Some r → lo ≤ r.number
  above-found lo q [] r g h = absurd (let clash : None ≡ Some r = h in cc)
  above-found lo q (s ∷ ss) r g h = (elim s.work as (λ w. find q (filter_map row_in (record s { work = w } ∷ ss)) ≡ Some r → lo ≤ r.number) [
    | None ↦ λ h. let on = above-found (suc s.number) q ss r g.1 h in omega (arith, on, g.0)
    | Some v ↦ elim (q (row s v)) as (λ y. cond y (Some (row s v)) (find q (rows_of ss)) ≡ Some r → lo ≤ r.number) [
      | true ↦ λ h. let e : row s v ≡ r = cc in subst (λ (z : Row T R). lo ≤ z.number) e g.0
      | false ↦ λ h. let on = above-found (suc s.number) q ss r g.1 h in omega (arith, on, g.0)
    ]
  ]) h

  pub found-below : (hi : ℕ) (q : Row T R → Bool) (ss : List (Slot T R)) (r : Row T R) → Below hi ss → find q (rows_of ss) ≡ Some r → r.number < hi
  found-below hi q [] r b h = absurd (let clash : None ≡ Some r = h in cc)
  found-below hi q (s ∷ ss) r b h = (elim s.work as (λ w. find q (filter_map row_in (record s { work = w } ∷ ss)) ≡ Some r → r.number < hi) [
    | None ↦ λ h. found-below hi q ss r b.1 h
    | Some v ↦ elim (q (row s v)) as (λ y. cond y (Some (row s v)) (find q (rows_of ss)) ≡ Some r → r.number < hi) [
      | true ↦ λ h. let e : row s v ≡ r = cc in subst (λ (z : Row T R). z.number < hi) e b.0
      | false ↦ λ h. found-below hi q ss r b.1 h
    ]
  ]) h

  -- it is the row of its number
  pub found-numbered : (lo : ℕ) (q : Row T R → Bool) (ss : List (Slot T R)) (r : Row T R) → Rising lo ss → find q (rows_of ss) ≡ Some r → find (λ (z : Row T R). nat_eq r.number z.number) (rows_of ss) ≡ Some r
  found-numbered lo q [] r g h = absurd (let clash : None ≡ Some r = h in cc)
  found-numbered lo q (s ∷ ss) r g h = (elim s.work as (λ w. find q (filter_map row_in (record s { work = w } ∷ ss)) ≡ Some r → find (λ (z : Row T R). nat_eq r.number z.number) (filter_map row_in (record s { work = w } ∷ ss)) ≡ Some r) [
    | None ↦ λ h. found-numbered (suc s.number) q ss r g.1 h
    | Some v ↦ elim (q (row s v)) as (λ y. cond y (Some (row s v)) (find q (rows_of ss)) ≡ Some r → cond (nat_eq r.number s.number) (Some (row s v)) (find (λ (z : Row T R). nat_eq r.number z.number) (rows_of ss)) ≡ Some r) [
      | true ↦ λ h. let e : row s v ≡ r = cc in let n : r.number ≡ s.number = ap (λ (z : Row T R). z.number) (sym e) in let yes : nat_eq r.number s.number ≡ true = eq-eqb r.number s.number n in rw yes h
      | false ↦ λ h.
          let on = above-found (suc s.number) q ss r g.1 h in
          let off : nat_eq r.number s.number ≡ false = eqb-apart r.number s.number (λ e. omega (arith, e, on)) in
          rw off (found-numbered (suc s.number) q ss r g.1 h)
    ]
  ]) h

  module _ (q : Row T R → Bool) (n : ℕ) (ss : List (Slot T R)) (r : Row T R) (g : Rising 0 ss) (h : find q (rows_of ss) ≡ Some r)
      (e : r.number ≡ n) where
    -- the row that passes a test stands where its number does
    pub found-at : (i : ℕ) (a : IsAt ss i n) → r ≡ row a.slot a.work
    found-at i a =
        let one = found-numbered 0 q ss r g h in
        let two = find-at 0 i ss a.slot a.work g a.at a.works in
        let same : r.number ≡ a.slot.number = e ∙ sym a.numbered in
        let three : find (λ (z : Row T R). nat_eq a.slot.number z.number) (rows_of ss) ≡ Some r =
        subst (λ k. find (λ (z : Row T R). nat_eq k z.number) (rows_of ss) ≡ Some r) same one in
        let four : Some r ≡ Some (row a.slot a.work) = sym three ∙ two in cc

    pub not-lost : find (λ (z : Row T R). nat_eq n z.number) (rows_of ss) ≡ None → ⊥
    not-lost lost =
        let one = found-numbered 0 q ss r g h in
        let clash : Some r ≡ None = sym (subst (λ k. find (λ (z : Row T R). nat_eq k z.number) (rows_of ss) ≡ Some r) e one) ∙ lost in cc
