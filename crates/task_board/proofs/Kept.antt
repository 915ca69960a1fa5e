-- What a board keeps when one slot changes, or one is added.
use Rattle.std.proofs.Common.{◌≡◌, ℕ, zero, suc, ◌+◌, ◌-◌, ◌^◌, ◌<◌, ◌≤◌, Bool, true, false, not, cond, ◌&&◌, ◌||◌, List, [], ◌∷◌, ◌++◌, length, get_or, set, Option, Some, None, Result, Ok, OnOk, refl, sym, ap, ◌∙◌, subst, arith, eqb, eqb-true, eq-eqb, length-append}
use Rattle.std.specs.Prelude.{map, find, filter_map, slice_get, nat_eq, option_map, replicate, is_some}
use Rattle.std.proofs.lemmas.List.{length-set, length-replicate}
use Rattle.std.proofs.lemmas.Option.{get_or_from_slice_get}
use Rattle.std.specs.List.{AllByRecursion, IsDistinct}
use Rattle.std.specs.HashMap.{HashMap, get, spare}
use Rattle.std.specs.Map.{lookup}
use Rattle.task_board.specs.declared.standing.Standing.{Standing}
use Rattle.task_board.specs.declared.standing.Standing.TheVariants.{Waiting, Held}
use Rattle.task_board.specs.declared.slot.Slot.{Slot}
use Rattle.task_board.specs.Places.{nothing, least_number}
use Rattle.task_board.specs.Rows.{Table, IsTable, Row, moved, claimed, posted, with_rows, least_waiting, least_left, all_done, holder, outcome_of, work_of, result_of, is_done, is_held, stand, stand_at, without_block, has_row, Numbered, is_waiting, is_left}
use Rattle.task_board.specs.Slots.{row, row_in, rows_of, restood, emptied, Rising, Below, IsAt, Marks, Changes, IsKept, key, full}
use Rattle.task_board.proofs.Full.{rows-full, rising-full, below-full}
use Rattle.task_board.proofs.Seen.{eqb-apart, stand-here, found-at, not-lost, find-at, passes}
use Rattle.task_board.proofs.Marked.{marks-set, marks-push, marks-none, least-number}

some-map : {X Y : Type 0} (f : X → Y) (o : Option X) → is_some (option_map f o) ≡ is_some o
some-map f None = refl
some-map f (Some x) = refl

twice-not : (b c : Bool) → b ≡ not c → c ≡ not b
twice-not b true e = rw e refl
twice-not b false e = rw e refl

all-push : (P : ℕ → Type 0) (bs : List ℕ) (b : ℕ) → AllByRecursion P bs → P b → AllByRecursion P (bs ++ b ∷ [])
all-push P [] b a p = (p, tt)
all-push P (x ∷ xs) b a p = (a.0, all-push P xs b a.1 p)

pub on-ok : {X E : Type 0} (P : Type 0) (r : Result X E) (x : X) → r ≡ Ok x → OnOk r P → P
on-ok P r x e h = subst (λ q. OnOk q P) e h

-- there is room for more rows behind so many slots
pub record HasRoom {S : Type 0} (count room capacity : ℕ) (ws ls : List ℕ) (bs : HashMap ℕ ℕ S) : Type 0 where
  pub slots_room : count + room ≤ capacity
  pub waiting_room : count + room ≤ length ws
  pub left_room : count + room ≤ length ls
  pub blocks_room : room ≤ spare bs

module _ {T R : Type 0} where
  abbrev pub blocks_of : List (Row T R) → List ℕ
  blocks_of rows = map (λ r. r.block) rows

  -- the number of the row of a block
  abbrev pub number_of : ℕ → List (Row T R) → Option ℕ
  number_of block rows = option_map (λ r. r.number) (find (λ r. nat_eq block r.block) rows)

  -- ---- numbers

  rising-set : (lo i : ℕ) (ss : List (Slot T R)) (s s' : Slot T R) → slice_get ss i ≡ Some s → s'.number ≡ s.number → Rising lo ss → Rising lo (set ss i s')
  rising-set lo i [] s s' h e r = r
  rising-set lo zero (x ∷ xs) s s' h e r = let same : x ≡ s = cc in let n : x.number ≡ s'.number = ap (λ (y : Slot T R). y.number) same ∙ sym e in
      (subst (λ k. lo ≤ k) n r.0, subst (λ k. Rising (suc k) xs) n r.1)
  rising-set lo (suc i) (x ∷ xs) s s' h e r = (r.0, rising-set (suc x.number) i xs s s' h e r.1)

  below-set : (hi i : ℕ) (ss : List (Slot T R)) (s s' : Slot T R) → slice_get ss i ≡ Some s → s'.number ≡ s.number → Below hi ss → Below hi (set ss i s')
  below-set hi i [] s s' h e b = b
  below-set hi zero (x ∷ xs) s s' h e b = let same : x ≡ s = cc in let n : x.number ≡ s'.number = ap (λ (y : Slot T R). y.number) same ∙ sym e in
      (subst (λ k. k < hi) n b.0, b.1)
  below-set hi (suc i) (x ∷ xs) s s' h e b = (b.0, below-set hi i xs s s' h e b.1)

  below-more : (hi hi' : ℕ) (ss : List (Slot T R)) → hi ≤ hi' → Below hi ss → Below hi' ss
  below-more hi hi' [] le b = b
  below-more hi hi' (s ∷ ss) le b = (omega (arith, b.0), below-more hi hi' ss le b.1)

  below-push : (hi : ℕ) (ss : List (Slot T R)) (s : Slot T R) → s.number < hi → Below hi ss → Below hi (ss ++ s ∷ [])
  below-push hi [] s lt b = (lt, tt)
  below-push hi (x ∷ xs) s lt b = (b.0, below-push hi xs s lt b.1)

  rising-push : (lo : ℕ) (ss : List (Slot T R)) (s : Slot T R) → lo ≤ s.number → Below s.number ss → Rising lo ss → Rising lo (ss ++ s ∷ [])
  rising-push lo [] s le b r = (le, tt)
  rising-push lo (x ∷ xs) s le b r = (r.0, rising-push (suc x.number) xs s b.0 b.1 r.1)

  -- the numbers of rows rise as those of their slots do
  pub numbered : (lo hi : ℕ) (ss : List (Slot T R)) → lo ≤ hi → Rising lo ss → Below hi ss → Numbered lo (rows_of ss) hi
  numbered lo hi [] le r b = le
  numbered lo hi (s ∷ ss) le r b = (elim s.work as (λ w. Numbered lo (filter_map row_in (record s { work = w } ∷ ss)) hi) [
    | None ↦ lower lo (suc s.number) (rows_of ss) hi (omega (arith, r.0)) (numbered (suc s.number) hi ss b.0 r.1 b.1)
    | Some w ↦ (r.0, numbered (suc s.number) hi ss b.0 r.1 b.1)
  ])
    where
      lower : (lo lo' : ℕ) (rows : List (Row T R)) (hi : ℕ) → lo ≤ lo' → Numbered lo' rows hi → Numbered lo rows hi
      lower lo lo' [] hi le n = omega (arith, n)
      lower lo lo' (r ∷ rs) hi le n = (omega (arith, n.0), n.1)

  -- ---- a row that stands in another way

  blocks-stand : (n : ℕ) (x : Standing R) (rows : List (Row T R)) → blocks_of (stand n x rows) ≡ blocks_of rows
  blocks-stand n x [] = refl
  blocks-stand n x (r ∷ rs) = ap (λ bs. r.block ∷ bs) (blocks-stand n x rs)

  number-stand : (n : ℕ) (x : Standing R) (block : ℕ) (rows : List (Row T R)) → number_of block (stand n x rows) ≡ number_of block rows
  number-stand n x block [] = refl
  number-stand n x block (r ∷ rs) = elim (nat_eq block r.block) as (λ y. option_map (λ q. q.number) (cond y (Some (stand_at n x r)) (find (λ q. nat_eq block q.block) (stand n x rs))) ≡ option_map (λ q. q.number) (cond y (Some r) (find (λ q. nat_eq block q.block) rs))) [
    | true ↦ refl
    | false ↦ number-stand n x block rs
  ]

  -- ---- a row that goes

  -- where no row is of a block, taking its row away changes nothing
  without-away : (block : ℕ) (rows : List (Row T R)) → AllByRecursion (λ b. nat_eq block b ≡ false) (blocks_of rows) → without_block block rows ≡ rows
  without-away block [] a = refl
  without-away block (r ∷ rs) a = rw a.0 (ap (λ t. r ∷ t) (without-away block rs a.1))

  of-slot : (P : ℕ → Type 0) (i : ℕ) (ss : List (Slot T R)) (s : Slot T R) (w : T) → slice_get ss i ≡ Some s → s.work ≡ Some w → AllByRecursion P (blocks_of (rows_of ss)) → P s.block
  of-slot P i [] s w h e all = absurd (let clash : None ≡ Some s = h in cc)
  of-slot P zero (x ∷ xs) s w h e all = let same : x ≡ s = cc in let work : x.work ≡ Some w = ap (λ (y : Slot T R). y.work) same ∙ e in
      subst (λ (y : Slot T R). P y.block) same (subst (λ o. AllByRecursion P (blocks_of (filter_map row_in (record x { work = o } ∷ xs)))) work all).0
  of-slot P (suc i) (x ∷ xs) s w h e all = (elim x.work as (λ o. AllByRecursion P (blocks_of (filter_map row_in (record x { work = o } ∷ xs))) → P s.block) [
    | None ↦ λ all. of-slot P i xs s w h e all
    | Some v ↦ λ all. of-slot P i xs s w h e all.1
  ]) all

  module _ (s : Slot T R) (w : T) (block : ℕ) (e : s.work ≡ Some w) (b : s.block ≡ block) where
    rows-emptied : (i : ℕ) (ss : List (Slot T R)) → slice_get ss i ≡ Some s → IsDistinct nat_eq (blocks_of (rows_of ss))
        → rows_of (set ss i (emptied s)) ≡ without_block block (rows_of ss)
    unfolding IsDistinct
    rows-emptied i [] h d = absurd (let clash : None ≡ Some s = h in cc)
    rows-emptied zero (x ∷ xs) h d =
        let same : x ≡ s = cc in
        let work : x.work ≡ Some w = ap (λ (y : Slot T R). y.work) same ∙ e in
        let its : nat_eq block x.block ≡ true = eq-eqb block x.block (sym (ap (λ (y : Slot T R). y.block) same ∙ b)) in
        let d' = subst (λ o. IsDistinct nat_eq (blocks_of (filter_map row_in (record x { work = o } ∷ xs)))) work d in
        let away = subst (λ z. AllByRecursion (λ y. nat_eq z y ≡ false) (blocks_of (rows_of xs)))
        (ap (λ (y : Slot T R). y.block) same ∙ b) d'.0 in
        subst (λ o. rows_of xs ≡ without_block block (filter_map row_in (record x { work = o } ∷ xs))) (sym work)
        (rw its (sym (without-away block (rows_of xs) away)))
    rows-emptied (suc i) (x ∷ xs) h d = (elim x.work as (λ o. IsDistinct nat_eq (blocks_of (filter_map row_in (record x { work = o } ∷ xs)))
        → filter_map row_in (record x { work = o } ∷ set xs i (emptied s))
        ≡ without_block block (filter_map row_in (record x { work = o } ∷ xs))) [
          | None ↦ λ d. rows-emptied i xs h d
          | Some v ↦ λ d.
              let other : nat_eq x.block s.block ≡ false = of-slot (λ y. nat_eq x.block y ≡ false) i xs s w h e d.0 in
              let off : nat_eq block x.block ≡ false = eqb-apart block x.block (λ q.
              let yes : nat_eq x.block s.block ≡ true = eq-eqb x.block s.block (sym q ∙ sym b) in
              let clash : true ≡ false = sym yes ∙ other in cc) in
              rw off (ap (λ rs. row x v ∷ rs) (rows-emptied i xs h d.1))
        ]) d

  all-without : (P : ℕ → Type 0) (block : ℕ) (rows : List (Row T R)) → AllByRecursion P (blocks_of rows) → AllByRecursion P (blocks_of (without_block block rows))
  all-without P block [] a = a
  all-without P block (r ∷ rs) a = elim (nat_eq block r.block) as (λ y. AllByRecursion P (blocks_of (cond (not y) (r ∷ without_block block rs) (without_block block rs)))) [
    | true ↦ all-without P block rs a.1
    | false ↦ (a.0, all-without P block rs a.1)
  ]

  apart-without : (block : ℕ) (rows : List (Row T R)) → IsDistinct nat_eq (blocks_of rows) → IsDistinct nat_eq (blocks_of (without_block block rows))
  unfolding IsDistinct
  apart-without block [] d = d
  apart-without block (r ∷ rs) d = elim (nat_eq block r.block) as (λ y. IsDistinct nat_eq (blocks_of (cond (not y) (r ∷ without_block block rs) (without_block block rs)))) [
    | true ↦ apart-without block rs d.1
    | false ↦ (all-without (λ b. nat_eq r.block b ≡ false) block rs d.0, apart-without block rs d.1)
  ]

  -- another block's row stays, and this one's goes
  number-without : (block q : ℕ) (rows : List (Row T R)) → number_of q (without_block block rows) ≡ cond (nat_eq block q) None (number_of q rows)
  number-without block q [] = elim (nat_eq block q) as (λ y. ◌≡◌ {A = Option ℕ} None (cond y None None)) [ true ↦ refl | false ↦ refl ]
  number-without block q (r ∷ rs) = let on = number-without block q rs in
      (elim (nat_eq block r.block) as (λ y. nat_eq block r.block ≡ y → number_of q (cond (not y) (r ∷ without_block block rs) (without_block block rs)) ≡ cond (nat_eq block q) None (number_of q (r ∷ rs))) [
        | true ↦ λ t. (elim (nat_eq q r.block) as (λ z. nat_eq q r.block ≡ z → number_of q (without_block block rs) ≡ cond (nat_eq block q) None (option_map (λ (x : Row T R). x.number) (cond z (Some r) (find (λ x. nat_eq q x.block) rs)))) [
          | true ↦ λ u. let same : nat_eq block q ≡ true = eq-eqb block q (eqb-true block r.block t ∙ sym (eqb-true q r.block u)) in rw same (on ∙ rw same refl)
          | false ↦ λ u. on
        ]) refl
        | false ↦ λ t. (elim (nat_eq q r.block) as (λ z. nat_eq q r.block ≡ z → option_map (λ (x : Row T R). x.number) (cond z (Some r) (find (λ x. nat_eq q x.block) (without_block block rs))) ≡ cond (nat_eq block q) None (option_map (λ (x : Row T R). x.number) (cond z (Some r) (find (λ x. nat_eq q x.block) rs)))) [
          | true ↦ λ u. let other : nat_eq block q ≡ false = eqb-apart block q (λ e. let yes : nat_eq block r.block ≡ true = eq-eqb block r.block (e ∙ eqb-true q r.block u) in let clash : true ≡ false = sym yes ∙ t in cc) in rw other refl
          | false ↦ λ u. on
        ]) refl
      ]) refl

  within-at : (i : ℕ) (ss : List (Slot T R)) (s : Slot T R) → slice_get ss i ≡ Some s → i < length ss
  within-at i [] s h = absurd (let clash : None ≡ Some s = h in cc)
  within-at zero (x ∷ xs) s h = omega arith
  within-at (suc i) (x ∷ xs) s h = let on = within-at i xs s h in omega (arith, on)

  -- ---- tables

  pub table-moved : (seat n : ℕ) (x : Standing R) (t : Table T R) (rows : List (Row T R)) → is_held seat n t.rows ≡ true → rows ≡ stand n x t.rows → with_rows rows t ≡ moved seat n x t
  table-moved seat n x t rows h e = rw (h, e) refl

  pub table-kept : (seat n : ℕ) (x : Standing R) (t : Table T R) → is_held seat n t.rows ≡ false → t ≡ moved seat n x t
  table-kept seat n x t h = rw h refl

  abbrev pub table : List (Row T R) → ℕ → ℕ → Table T R
  table rows next spare = record { rows = rows; next = next; spare = spare }

  pub table-claimed : (seat n : ℕ) (t : Table T R) (rows : List (Row T R)) → least_waiting t.rows ≡ Some n → rows ≡ stand n (Held seat) t.rows → with_rows rows t ≡ claimed seat t
  table-claimed seat n t rows h e = rw (h, e) refl

  pub table-posted : (block : ℕ) (w : T) (t : Table T R) (rows : List (Row T R)) → rows ≡ t.rows ++ record { number = t.next; block = block; work = w; standing = Waiting } ∷ []
      → record { rows = rows; next = t.next + 1; spare = t.spare - 1 } ≡ posted block w t
  table-posted block w t rows e = rw e refl

  pub table-unclaimed : (seat : ℕ) (t : Table T R) → least_waiting t.rows ≡ None → t ≡ claimed seat t
  table-unclaimed seat t h = rw h refl

  pub at-index : (i n : ℕ) (ss : List (Slot T R)) (s : Slot T R) → (a : IsAt ss i n) → s ≡ get_or ss i s → s ≡ a.slot
  at-index i n ss s a e = e ∙ get_or_from_slice_get ss i a.slot s a.at

  -- a row's number with the seat that holds it
  abbrev pub held_number : Row T R → ℕ × Option ℕ
  held_number r = (r.number, holder r.standing)

  left-none : (o : Option (Row T R)) → option_map (λ (r : Row T R). r.number) o ≡ None → option_map held_number o ≡ None
  left-none None h = refl
  left-none (Some r) h = let clash : Some r.number ≡ None = h in cc

  done-or-left : (rows : List (Row T R)) → all_done rows ≡ not (is_some (find (λ r. is_left r.standing) rows))
  done-or-left [] = refl
  done-or-left (r ∷ rs) = let on = done-or-left rs in elim (is_done r.standing) as (λ y. (y && all_done rs) ≡ not (is_some (cond (not y) (Some r) (find (λ r. is_left r.standing) rs)))) [
    | true ↦ on
    | false ↦ refl
  ]

  row-numbered : (block : ℕ) (rows : List (Row T R)) → is_some (number_of block rows) ≡ has_row block rows
  row-numbered block [] = refl
  row-numbered block (r ∷ rs) = let on = row-numbered block rs in elim (nat_eq block r.block) as (λ y. is_some (option_map (λ (r : Row T R). r.number) (cond y (Some r) (find (λ r. nat_eq block r.block) rs))) ≡ (y || has_row block rs)) [
    | true ↦ refl
    | false ↦ on
  ]

  pub none-without : (block : ℕ) (rows : List (Row T R)) → find (λ r. nat_eq block r.block) rows ≡ None → without_block block rows ≡ rows
  none-without block [] h = refl
  none-without block (r ∷ rs) h = (elim (nat_eq block r.block) as (λ y. cond y (Some r) (find (λ r. nat_eq block r.block) rs) ≡ None → cond (not y) (r ∷ without_block block rs) (without_block block rs) ≡ r ∷ rs) [
    | true ↦ λ h. absurd (let clash : Some r ≡ None = h in cc)
    | false ↦ λ h. ap (λ t. r ∷ t) (none-without block rs h)
  ]) h

  -- ---- a row more

  rows-push : (ss : List (Slot T R)) (s : Slot T R) (w : T) → s.work ≡ Some w → rows_of (ss ++ s ∷ []) ≡ rows_of ss ++ row s w ∷ []
  rows-push [] s w e = rw e refl
  rows-push (x ∷ xs) s w e = elim x.work as (λ o. filter_map row_in (record x { work = o } ∷ (xs ++ s ∷ [])) ≡ filter_map row_in (record x { work = o } ∷ xs) ++ row s w ∷ []) [
    | None ↦ rows-push xs s w e
    | Some v ↦ ap (λ rs. row x v ∷ rs) (rows-push xs s w e)
  ]

  blocks-push : (rows : List (Row T R)) (r : Row T R) → blocks_of (rows ++ r ∷ []) ≡ blocks_of rows ++ r.block ∷ []
  blocks-push [] r = refl
  blocks-push (x ∷ xs) r = ap (λ bs. x.block ∷ bs) (blocks-push xs r)

  apart-push : (rows : List (Row T R)) (b : ℕ) → IsDistinct nat_eq (blocks_of rows) → has_row b rows ≡ false → IsDistinct nat_eq (blocks_of rows ++ b ∷ [])
  unfolding IsDistinct
  apart-push [] b d h = (tt, tt)
  apart-push (r ∷ rs) b d h = (elim (nat_eq b r.block) as (λ y. nat_eq b r.block ≡ y → (y || has_row b rs) ≡ false → IsDistinct nat_eq (r.block ∷ (blocks_of rs ++ b ∷ []))) [
    | true ↦ λ t h. absurd (let clash : true ≡ false = h in cc)
    | false ↦ λ t h. (
      all-push (λ y. nat_eq r.block y ≡ false) (blocks_of rs) b d.0 (eqb-apart r.block b (λ e. let yes : nat_eq b r.block ≡ true = eq-eqb b r.block (sym e) in let clash : true ≡ false = sym yes ∙ t in cc)),
      apart-push rs b d.1 h,
    )
  ]) refl h

  number-push : (q : ℕ) (rows : List (Row T R)) (r : Row T R) → has_row r.block rows ≡ false → number_of q (rows ++ r ∷ []) ≡ cond (nat_eq r.block q) (Some r.number) (number_of q rows)
  number-push q [] r h = (elim (nat_eq r.block q) as (λ y. nat_eq r.block q ≡ y → option_map (λ (z : Row T R). z.number) (cond (nat_eq q r.block) (Some r) None) ≡ cond y (Some r.number) None) [
    | true ↦ λ t. let yes : nat_eq q r.block ≡ true = eq-eqb q r.block (sym (eqb-true r.block q t)) in rw yes refl
    | false ↦ λ t. let off : nat_eq q r.block ≡ false = eqb-apart q r.block (λ e. let yes : nat_eq r.block q ≡ true = eq-eqb r.block q (sym e) in let clash : true ≡ false = sym yes ∙ t in cc) in rw off refl
  ]) refl
  number-push q (x ∷ xs) r h = (elim (nat_eq r.block x.block) as (λ z. nat_eq r.block x.block ≡ z → (z || has_row r.block xs) ≡ false → number_of q (x ∷ (xs ++ r ∷ [])) ≡ cond (nat_eq r.block q) (Some r.number) (number_of q (x ∷ xs))) [
    | true ↦ λ u h. absurd (let clash : true ≡ false = h in cc)
    | false ↦ λ u h. let on = number-push q xs r h in
        (elim (nat_eq q x.block) as (λ y. nat_eq q x.block ≡ y → option_map (λ (z : Row T R). z.number) (cond y (Some x) (find (λ z. nat_eq q z.block) (xs ++ r ∷ []))) ≡ cond (nat_eq r.block q) (Some r.number) (option_map (λ (z : Row T R). z.number) (cond y (Some x) (find (λ z. nat_eq q z.block) xs)))) [
          | true ↦ λ t. let off : nat_eq r.block q ≡ false = eqb-apart r.block q (λ e. let yes : nat_eq r.block x.block ≡ true = eq-eqb r.block x.block (e ∙ eqb-true q x.block t) in let clash : true ≡ false = sym yes ∙ u in cc) in rw off refl
          | false ↦ λ t. on
        ]) refl
  ]) refl h

  -- the slot of a row more
  abbrev pub new_slot : ℕ → ℕ → T → Slot T R
  new_slot next block w = record { number = next; block = block; work = Some w; standing = Waiting }

  -- that slot is put behind the others, its number is among the keys and the map has it for the block, with one place less to spare
  pub record Added {S : Type 0} (next block : ℕ) (w : T) (ss ss' : List (Slot T R)) (capacity capacity' : ℕ) (ws ws' ls ls' : List ℕ)
      (bs bs' : HashMap ℕ ℕ S) : Type 0 where
    pub slots_are : ss' ≡ ss ++ new_slot next block w ∷ []
    pub capacity_is : capacity' ≡ capacity
    pub waiting_are : ws' ≡ set ws (length ss) next
    pub left_are : ls' ≡ set ls (length ss) next
    pub blocks_are : (q : ℕ) → get nat_eq bs' q ≡ cond (nat_eq block q) (Some next) (get nat_eq bs q)
    pub spares : spare bs ≤ spare bs' + 1

  module _ {S : Type 0} {ss : List (Slot T R)} {capacity : ℕ} {ws ls : List ℕ} {bs : HashMap ℕ ℕ S} {next room : ℕ} (k : IsKept ss capacity ws ls bs next room) where
    pub kept-stand : {ws' ls' : List ℕ} (i n : ℕ) (a : IsAt ss i n) (x : Standing R)
        → Marks is_waiting (set ss i (restood x a.slot)) ws' → length ws' ≡ length ws
        → Marks is_left (set ss i (restood x a.slot)) ls' → length ls' ≡ length ls
        → IsKept (set ss i (restood x a.slot)) capacity ws' ls' bs next room
    kept-stand i n a x mw lw ml ll =
        let rows : rows_of (set ss i (restood x a.slot)) ≡ stand a.slot.number x (rows_of ss) = stand-here 0 i x ss a.slot k.rising a.at in
        let long : length (set ss i (restood x a.slot)) ≡ length ss = length-set ss i (restood x a.slot) in
        record {
          rising = rising-set 0 i ss a.slot (restood x a.slot) a.at refl k.rising;
          below = below-set next i ss a.slot (restood x a.slot) a.at refl k.below;
          few = k.few;
          apart = rw (rows, blocks-stand a.slot.number x (rows_of ss)) k.apart;
          waits = mw;
          leaves = ml;
          finds = λ block. k.finds block ∙ sym (ap (number_of block) rows ∙ number-stand a.slot.number x block (rows_of ss));
          slots_room = rw long k.slots_room;
          waiting_room = rw (long, lw) k.waiting_room;
          left_room = rw (long, ll) k.left_room;
          blocks_room = k.blocks_room;
        }

    -- what a change of a row's standing leaves
    pub stood : {ss' : List (Slot T R)} {capacity' : ℕ} {ws' ls' : List ℕ} (i n : ℕ) (a : IsAt ss i n) (x : Standing R)
        → Changes i (restood x) ss ss' ws ws' ls ls' → capacity' ≡ capacity → IsKept ss' capacity' ws' ls' bs next room × (rows_of ss' ≡ stand n x (rows_of ss))
    stood {ss'} {capacity'} {ws'} {ls'} i n a x c e =
        let same : c.slot ≡ a.slot = (let two : Some c.slot ≡ Some a.slot = sym c.at ∙ a.at in cc) in
        let here : ss' ≡ set ss i (restood x a.slot) = c.slots_are ∙ ap (λ s. set ss i (restood x s)) same in
        let waiting : ws' ≡ set ws i (key is_waiting (restood x a.slot)) = c.waiting_are ∙ ap (λ s. set ws i (key is_waiting (restood x s))) same in
        let left : ls' ≡ set ls i (key is_left (restood x a.slot)) = c.left_are ∙ ap (λ s. set ls i (key is_left (restood x s))) same in
        let within = within-at i ss a.slot a.at in
        rw (here, e, waiting, left) (
          kept-stand i n a x (marks-set is_waiting i ss (restood x a.slot) ws k.waits within) (length-set ws i _)
              (marks-set is_left i ss (restood x a.slot) ls k.leaves within) (length-set ls i _),
          stand-here 0 i x ss a.slot k.rising a.at ∙ ap (λ m. stand m x (rows_of ss)) a.numbered,
        )

    pub waiting-least : least_number ws ≡ least_waiting (rows_of ss)
    waiting-least = least-number is_waiting next ss ws k.rising k.below k.few k.waits

    pub left-least : least_number ls ≡ option_map (λ r. r.number) (find (λ r. is_left r.standing) (rows_of ss))
    left-least = least-number is_left next ss ls k.rising k.below k.few k.leaves

    -- the least number is a row's
    pub never-lost : (p : Standing R → Bool) (n : ℕ) → option_map (λ r. r.number) (find (λ r. p r.standing) (rows_of ss)) ≡ Some n → find (λ r. nat_eq n r.number) (rows_of ss) ≡ None → ⊥
    never-lost p n e lost = (elim (find (λ r. p r.standing) (rows_of ss)) as (λ o. find (λ r. p r.standing) (rows_of ss) ≡ o → option_map (λ r. r.number) o ≡ Some n → ⊥) [
      | None ↦ λ h f. let clash : None ≡ Some n = f in cc
      | Some r ↦ λ h f. let same : r.number ≡ n = cc in not-lost (λ r. p r.standing) n ss r k.rising h same lost
    ]) refl e

    pub done-least : (o : Option ℕ) (b : Bool) → o ≡ least_number ls → is_some o ≡ not b → b ≡ all_done (rows_of ss)
    done-least o b e h =
        let some : is_some o ≡ is_some (find (λ r. is_left r.standing) (rows_of ss)) = ap is_some (e ∙ left-least) ∙ some-map (λ r. r.number) (find (λ r. is_left r.standing) (rows_of ss)) in
        twice-not (is_some o) b h ∙ ap not some ∙ sym (done-or-left (rows_of ss))

    pub none-left : None ≡ least_number ls → None ≡ least_left (rows_of ss)
    none-left e = sym (left-none (find (λ r. is_left r.standing) (rows_of ss)) (sym (e ∙ left-least)))

    pub some-left : (n i seat : ℕ) (a : IsAt ss i n) (o : Option ℕ) → Some n ≡ least_number ls → o ≡ holder a.slot.standing → Some (n, o) ≡ least_left (rows_of ss)
    some-left n i seat a o e h = (elim (find (λ r. is_left r.standing) (rows_of ss)) as (λ f. find (λ r. is_left r.standing) (rows_of ss) ≡ f → option_map (λ (r : Row T R). r.number) f ≡ Some n → Some (n, o) ≡ option_map held_number f) [
      | None ↦ λ g f. absurd (let clash : None ≡ Some n = f in cc)
      | Some r ↦ λ g f.
          let same : r.number ≡ n = cc in
          let is : r ≡ row a.slot a.work = found-at (λ r. is_left r.standing) n ss r k.rising g same i a in
          let held : o ≡ holder r.standing = h ∙ ap (λ (z : Row T R). holder z.standing) (sym is) in
          rw (same, held) refl
    ]) refl (sym (e ∙ left-least))

    pub has-row : (block : ℕ) → is_some (get nat_eq bs block) ≡ has_row block (rows_of ss)
    has-row block = ap is_some (k.finds block) ∙ row-numbered block (rows_of ss)

    pub its-work : (n i : ℕ) (a : IsAt ss i n) → work_of n (rows_of ss) ≡ a.slot.work
    its-work n i a = rw (← a.numbered, find-at 0 i ss a.slot a.work k.rising a.at a.works) (sym a.works)

    pub no-block : (block : ℕ) → None ≡ get nat_eq bs block → find (λ r. nat_eq block r.block) (rows_of ss) ≡ None
    no-block block e = (elim (find (λ r. nat_eq block r.block) (rows_of ss)) as (λ f. option_map (λ (r : Row T R). r.number) f ≡ None → f ≡ None) [
      | None ↦ λ h. refl
      | Some r ↦ λ h. absurd (let clash : Some r.number ≡ None = h in cc)
    ]) (sym (e ∙ k.finds block))

    pub block-found : (block n : ℕ) → Some n ≡ get nat_eq bs block → (r : Row T R) × (find (λ r. nat_eq block r.block) (rows_of ss) ≡ Some r) × (r.number ≡ n)
    block-found block n e = (elim (find (λ r. nat_eq block r.block) (rows_of ss)) as (λ f. find (λ r. nat_eq block r.block) (rows_of ss) ≡ f → option_map (λ (r : Row T R). r.number) f ≡ Some n → (r : Row T R) × (find (λ r. nat_eq block r.block) (rows_of ss) ≡ Some r) × (r.number ≡ n)) [
      | None ↦ λ g h. absurd (let clash : None ≡ Some n = h in cc)
      | Some r ↦ λ g h. (r, g, (let same : r.number ≡ n = cc in same))
    ]) refl (sym (e ∙ k.finds block))

    pub block-never-lost : (block n : ℕ) → Some n ≡ get nat_eq bs block → find (λ r. nat_eq n r.number) (rows_of ss) ≡ None → ⊥
    block-never-lost block n e lost = let f = block-found block n e in not-lost (λ r. nat_eq block r.block) n ss f.0 k.rising f.1 f.2 lost

    pub its-result : (block n i : ℕ) (a : IsAt ss i n) → Some n ≡ get nat_eq bs block → result_of block (rows_of ss) ≡ outcome_of a.slot.standing
    its-result block n i a e = let f = block-found block n e in
        rw f.1 (ap (λ (z : Row T R). outcome_of z.standing) (found-at (λ r. nat_eq block r.block) n ss f.0 k.rising f.1 f.2 i a))

    module _ (i n : ℕ) (a : IsAt ss i n) where
      -- what taking a row away leaves
      pub emptied-kept : {ss' : List (Slot T R)} {capacity' : ℕ} {ws' ls' : List ℕ} (block : ℕ) (bs' : HashMap ℕ ℕ S)
          → Changes i emptied ss ss' ws ws' ls ls' → capacity' ≡ capacity → get nat_eq bs block ≡ Some n
          → ((q : ℕ) → get nat_eq bs' q ≡ cond (nat_eq block q) None (get nat_eq bs q)) → spare bs ≤ spare bs'
          → IsKept ss' capacity' ws' ls' bs' next room × (rows_of ss' ≡ without_block block (rows_of ss))
      emptied-kept {ss'} {capacity'} {ws'} {ls'} block bs' c e g up sp =
          let same : c.slot ≡ a.slot = (let two : Some c.slot ≡ Some a.slot = sym c.at ∙ a.at in cc) in
          let here : ss' ≡ set ss i (emptied a.slot) = c.slots_are ∙ ap (λ s. set ss i (emptied s)) same in
          let waiting : ws' ≡ set ws i (key is_waiting (emptied a.slot)) = c.waiting_are
          ∙ ap (λ s. set ws i (key is_waiting (emptied s))) same in
          let left : ls' ≡ set ls i (key is_left (emptied a.slot)) = c.left_are ∙ ap (λ s. set ls i (key is_left (emptied s))) same in
          let within = within-at i ss a.slot a.at in
          let its : a.slot.block ≡ block = block-at block g in
          let rows : rows_of (set ss i (emptied a.slot)) ≡ without_block block (rows_of ss) =
          rows-emptied a.slot a.work block a.works its i ss a.at k.apart in
          let long : length (set ss i (emptied a.slot)) ≡ length ss = length-set ss i (emptied a.slot) in
          rw (here, e, waiting, left) (
            record {
              rising = rising-set 0 i ss a.slot (emptied a.slot) a.at refl k.rising;
              below = below-set next i ss a.slot (emptied a.slot) a.at refl k.below;
              few = k.few;
              apart = rw rows (apart-without block (rows_of ss) k.apart);
              waits = marks-set is_waiting i ss (emptied a.slot) ws k.waits within;
              leaves = marks-set is_left i ss (emptied a.slot) ls k.leaves within;
              finds = λ q. up q ∙ ap (λ o. cond (nat_eq block q) None o) (k.finds q)
                  ∙ sym (ap (number_of q) rows ∙ number-without block q (rows_of ss));
              slots_room = rw long k.slots_room;
              waiting_room = rw (long, length-set ws i (key is_waiting (emptied a.slot))) k.waiting_room;
              left_room = rw (long, length-set ls i (key is_left (emptied a.slot))) k.left_room;
              blocks_room = omega (arith, k.blocks_room, sp);
            },
            rows,
          )
        where
          block-at : (block : ℕ) → get nat_eq bs block ≡ Some n → a.slot.block ≡ block
          block-at block g = (elim (find (λ r. nat_eq block r.block) (rows_of ss)) as (λ o.
              find (λ r. nat_eq block r.block) (rows_of ss) ≡ o
              → option_map (λ (r : Row T R). r.number) o ≡ Some n → a.slot.block ≡ block) [
                | None ↦ λ h f. absurd (let clash : None ≡ Some n = f in cc)
                | Some r ↦ λ h f. let same : r.number ≡ n = cc in
                    let is : r ≡ row a.slot a.work = found-at (λ r. nat_eq block r.block) n ss r k.rising h same i a in
                    sym (eqb-true block a.slot.block (subst (λ (z : Row T R). nat_eq block z.block ≡ true) is
                    (passes (λ r. nat_eq block r.block) (rows_of ss) r h)))
              ]) refl (sym (k.finds block) ∙ g)

    pub without-none : (block : ℕ) → None ≡ get nat_eq bs block → rows_of ss ≡ without_block block (rows_of ss)
    without-none block e = sym (none-without block (rows_of ss) (no-block block e))

    -- what a row more leaves
    pub added-kept : {ss' : List (Slot T R)} {capacity' : ℕ} {ws' ls' : List ℕ} (bs' : HashMap ℕ ℕ S) (block : ℕ) (w : T)
        → next < 2 ^ 63 → 0 < room → has_row block (rows_of ss) ≡ false
        → Added next block w ss ss' capacity capacity' ws ws' ls ls' bs bs'
        → IsKept ss' capacity' ws' ls' bs' (next + 1) (room - 1)
        × (rows_of ss' ≡ rows_of ss ++ record { number = next; block = block; work = w; standing = Waiting } ∷ [])
    added-kept bs' block w lt some fresh c =
        let s : Slot T R = new_slot next block w in
        let rows : rows_of (ss ++ s ∷ []) ≡ rows_of ss ++ row s w ∷ [] = rows-push ss s w refl in
        let long : length (ss ++ s ∷ []) ≡ length ss + 1 = length-append ss (s ∷ []) in
        rw (c.slots_are, c.capacity_is, c.waiting_are, c.left_are) (
          record {
            rising = rising-push 0 ss s (omega arith) k.below k.rising;
            below = below-push (next + 1) ss s (omega arith) (below-more next (next + 1) ss (omega arith) k.below);
            few = omega (arith, lt);
            apart = rw (rows, blocks-push (rows_of ss) (row s w)) (apart-push (rows_of ss) block k.apart fresh);
            waits = marks-push is_waiting ss s ws k.waits (omega (arith, k.waiting_room, some));
            leaves = marks-push is_left ss s ls k.leaves (omega (arith, k.left_room, some));
            finds = λ q. c.blocks_are q ∙ ap (λ o. cond (nat_eq block q) (Some next) o) (k.finds q)
                ∙ sym (ap (number_of q) rows ∙ number-push q (rows_of ss) (row s w) fresh);
            slots_room = rw long (omega (arith, k.slots_room, some));
            waiting_room = rw (long, length-set ws (length ss) next) (omega (arith, k.waiting_room, some));
            left_room = rw (long, length-set ls (length ss) next) (omega (arith, k.left_room, some));
            blocks_room = omega (arith, k.blocks_room, c.spares, some);
          },
          rows,
        )

    -- what is left when all rows go
    pub closed-kept : {ss' : List (Slot T R)} {capacity' : ℕ} {ws' ls' : List ℕ} (bs' : HashMap ℕ ℕ S)
        → ss' ≡ [] → capacity' ≡ capacity → ws' ≡ replicate (length ws) nothing → ls' ≡ replicate (length ls) nothing → bs'.entries ≡ [] → spare bs ≤ spare bs'
        → IsKept ss' capacity' ws' ls' bs' next room × (rows_of ss' ≡ [])
    unfolding IsDistinct
    closed-kept bs' here cap waiting left none sp =
        rw (here, cap, waiting, left) (
          record {
            rising = tt;
            below = tt;
            few = k.few;
            apart = tt;
            waits = marks-none is_waiting [] (length ws) refl;
            leaves = marks-none is_left [] (length ls) refl;
            finds = λ q. ap (λ es. lookup (nat_eq q) es) none;
            slots_room = omega (arith, k.slots_room);
            waiting_room = rw length-replicate (omega (arith, k.waiting_room));
            left_room = rw length-replicate (omega (arith, k.left_room));
            blocks_room = omega (arith, k.blocks_room, sp);
          },
          refl,
        )

    -- what is left when the slots are made anew without those that are empty
    pub renewed-kept : {ss' : List (Slot T R)} {capacity' : ℕ} {ws' ls' : List ℕ} (bs' : HashMap ℕ ℕ S) (room' : ℕ)
        → ss' ≡ full ss → Marks is_waiting (full ss) ws' → Marks is_left (full ss) ls' → ((q : ℕ) → get nat_eq bs' q ≡ get nat_eq bs q)
        → HasRoom (length (full ss)) room' capacity' ws' ls' bs' → IsKept ss' capacity' ws' ls' bs' next room' × (rows_of ss' ≡ rows_of ss)
    renewed-kept bs' room' here mw ml same r =
        rw here (
          record {
            rising = rising-full 0 ss k.rising;
            below = below-full next ss k.below;
            few = k.few;
            apart = rw rows-full k.apart;
            waits = mw;
            leaves = ml;
            finds = λ q. same q ∙ k.finds q ∙ ap (number_of q) (sym (rows-full ss));
            slots_room = r.slots_room;
            waiting_room = r.waiting_room;
            left_room = r.left_room;
            blocks_room = r.blocks_room;
          },
          rows-full ss,
        )

    -- what every table is
    pub is-table : IsTable (table (rows_of ss) next room)
    is-table = record { numbered = numbered 0 next ss (omega arith) k.rising k.below; few = k.few; blocks = k.apart }
