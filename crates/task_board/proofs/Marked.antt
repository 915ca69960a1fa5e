-- The numbers of a tournament over slots: what a change of one slot changes, and what the least of them is.
use Rattle.std.proofs.Common.{◌≡◌, ◌≢◌, ℕ, zero, suc, ◌+◌, ◌-◌, ◌^◌, ◌<◌, ◌≤◌, Bool, true, false, not, cond, ◌⊎◌, inl, inr, List, [], ◌∷◌, ◌++◌, length, get_or, set, Option, Some, None, refl, sym, ap, ◌∙◌, subst, arith, eqb, length-append, append_assoc, append-nil}
use Rattle.std.specs.Prelude.{map, find, filter_map, slice_get, nat_eq, option_map, replicate, min}
use Rattle.std.proofs.lemmas.List.{length-set, set-append_left, length-replicate}
use Rattle.std.proofs.Math.Seq.{set-append_seam}
use Rattle.std.specs.Option.{option_map_or}
use Rattle.task_board.specs.declared.standing.Standing.{Standing}
use Rattle.task_board.specs.declared.slot.Slot.{Slot}
use Rattle.task_board.specs.Places.{nothing, least_of, least_number}
use Rattle.task_board.specs.Rows.{Row}
use Rattle.task_board.specs.Slots.{row, row_in, rows_of, key, Rising, Below, Marks}
use Rattle.task_board.proofs.Seen.{eqb-apart, found-below}

least-nothing : (k : ℕ) → least_of (replicate k nothing) ≡ nothing
least-nothing zero = refl
least-nothing (suc k) = let on = least-nothing k in omega (arith, on)

least-behind : (k : ℕ) (xs : List ℕ) → least_of (xs ++ replicate k nothing) ≡ least_of xs
least-behind k [] = least-nothing k
least-behind k (x ∷ xs) = ap (λ m. min x m) (least-behind k xs)

length-nothing : (k : ℕ) → length (replicate k nothing) - 0 ≡ k
length-nothing k = let l = length-replicate k nothing in omega (arith, l)

module _ {T R : Type 0} (p : Standing R → Bool) where
  abbrev keys : List (Slot T R) → List ℕ
  keys ss = map (key p) ss

  length-keys : (ss : List (Slot T R)) → length (keys ss) ≡ length ss
  length-keys [] = refl
  length-keys (s ∷ ss) = let on = length-keys ss in omega (arith, on)

  keys-set : (i : ℕ) (ss : List (Slot T R)) (s : Slot T R) → keys (set ss i s) ≡ set (keys ss) i (key p s)
  keys-set i [] s = refl
  keys-set zero (x ∷ xs) s = refl
  keys-set (suc i) (x ∷ xs) s = ap (λ ks. key p x ∷ ks) (keys-set i xs s)

  keys-same : (i : ℕ) (ss : List (Slot T R)) (s s' : Slot T R) → slice_get ss i ≡ Some s → key p s' ≡ key p s → keys (set ss i s') ≡ keys ss
  keys-same i [] s s' h e = refl
  keys-same zero (x ∷ xs) s s' h e = let same : x ≡ s = cc in ap (λ k. k ∷ keys xs) (e ∙ ap (key p) (sym same))
  keys-same (suc i) (x ∷ xs) s s' h e = ap (λ ks. key p x ∷ ks) (keys-same i xs s s' h e)

  keys-append : (xs : List (Slot T R)) (s : Slot T R) → keys (xs ++ s ∷ []) ≡ keys xs ++ key p s ∷ []
  keys-append [] s = refl
  keys-append (x ∷ xs) s = ap (λ ks. key p x ∷ ks) (keys-append xs s)

  -- ---- the marks after a change

  pub marks-set : (i : ℕ) (ss : List (Slot T R)) (s : Slot T R) (ns : List ℕ) → Marks p ss ns → i < length ss → Marks p (set ss i s) (set ns i (key p s))
  marks-set i ss s ns m lt = record {
    within = rw (length-set, length-set) m.within;
    are = rw (length-set ss i s, length-set ns i (key p s), keys-set i ss s)
        (ap (λ t. set t i (key p s)) m.are ∙ set-append_left (keys ss) (replicate (length ns - length ss) nothing) i (key p s) (let l = length-keys ss in omega (arith, l)));
  }

  pub marks-same : (i : ℕ) (ss : List (Slot T R)) (s s' : Slot T R) (ns : List ℕ) → Marks p ss ns → slice_get ss i ≡ Some s → key p s' ≡ key p s → Marks p (set ss i s') ns
  marks-same i ss s s' ns m h e = record {
    within = rw length-set m.within;
    are = rw (length-set ss i s', keys-same i ss s s' h e) m.are;
  }

  pub marks-push : (ss : List (Slot T R)) (s : Slot T R) (ns : List ℕ) → Marks p ss ns → length ss < length ns → Marks p (ss ++ s ∷ []) (set ns (length ss) (key p s))
  marks-push ss s ns m lt =
      let d : ℕ = length ns - suc (length ss) in
      let left : length ns - length ss ≡ suc d = omega arith in
      let long : length (ss ++ s ∷ []) ≡ suc (length ss) = length-append ss (s ∷ []) ∙ omega arith in
      let was : ns ≡ keys ss ++ nothing ∷ replicate d nothing = subst (λ k. ns ≡ keys ss ++ replicate k nothing) left m.are in
      record {
        within = rw (length-set, long) lt;
        are = rw (length-set ns (length ss) (key p s), long, keys-append ss s, append_assoc)
            (ap (λ t. set t (length ss) (key p s)) was
            ∙ ap (λ k. set (keys ss ++ nothing ∷ replicate d nothing) k (key p s)) (sym (length-keys ss))
            ∙ set-append_seam (keys ss) nothing (replicate d nothing) (key p s));
      }

  pub marks-none : (ss : List (Slot T R)) (k : ℕ) → ss ≡ [] → Marks p ss (replicate k nothing)
  marks-none ss k e = rw e (record { within = omega arith; are = ap (λ n. replicate n nothing) (sym (length-nothing k)) })

  -- ---- the least

  -- the first row that stands so
  abbrev pub first : List (Slot T R) → Option (Row T R)
  first ss = find (λ r. p r.standing) (rows_of ss)

  low : (lo hi : ℕ) (ss : List (Slot T R)) → Rising lo ss → Below hi ss → hi ≤ nothing → lo ≤ nothing → lo ≤ least_of (keys ss)
  low lo hi [] r b few le = le
  low lo hi (s ∷ ss) r b few le =
      let on = low (suc s.number) hi ss r.1 b.1 few (omega (arith, b.0)) in
      let fits : lo ≤ key p s = (elim s.work as (λ w. lo ≤ option_map_or (λ v. cond (p s.standing) s.number nothing) w nothing) [
        | None ↦ le
        | Some v ↦ elim (p s.standing) as (λ y. lo ≤ cond y s.number nothing) [ true ↦ r.0 | false ↦ le ]
      ]) in
      omega (arith, on, fits, r.0)

  few-least : (lo hi : ℕ) (ss : List (Slot T R)) → Rising lo ss → Below hi ss → hi ≤ nothing → lo ≤ nothing → least_of (keys ss) ≤ nothing
  few-least lo hi [] r b few le = omega arith
  few-least lo hi (s ∷ ss) r b few le = let on = few-least (suc s.number) hi ss r.1 b.1 few (omega (arith, b.0)) in omega (arith, on)

  least-first : (lo hi : ℕ) (ss : List (Slot T R)) → Rising lo ss → Below hi ss → hi ≤ nothing → lo ≤ nothing → least_of (keys ss) ≡ option_map_or (λ r. r.number) (first ss) nothing
  least-first lo hi [] r b few le = refl
  least-first lo hi (s ∷ ss) r b few le =
      let le' : suc s.number ≤ nothing = omega (arith, b.0) in
      let on = least-first (suc s.number) hi ss r.1 b.1 few le' in
      let above = low (suc s.number) hi ss r.1 b.1 few le' in
      let most = few-least (suc s.number) hi ss r.1 b.1 few le' in
      let skip : min nothing (least_of (keys ss)) ≡ option_map_or (λ r. r.number) (first ss) nothing = (let e : min nothing (least_of (keys ss)) ≡ least_of (keys ss) = omega (arith, most) in e ∙ on) in
      (elim s.work as (λ w. min (option_map_or (λ v. cond (p s.standing) s.number nothing) w nothing) (least_of (keys ss)) ≡ option_map_or (λ r. r.number) (find (λ r. p r.standing) (filter_map row_in (record s { work = w } ∷ ss))) nothing) [
        | None ↦ skip
        | Some v ↦ elim (p s.standing) as (λ y. min (cond y s.number nothing) (least_of (keys ss)) ≡ option_map_or (λ r. r.number) (cond y (Some (row s v)) (first ss)) nothing) [
          | true ↦ omega (arith, above)
          | false ↦ skip
        ]
      ])

  pub least-number : (hi : ℕ) (ss : List (Slot T R)) (ns : List ℕ) → Rising 0 ss → Below hi ss → hi ≤ 2 ^ 63 → Marks p ss ns → least_number ns ≡ option_map (λ r. r.number) (first ss)
  least-number hi ss ns r b few m =
      let is : least_of ns ≡ option_map_or (λ r. r.number) (first ss) nothing = ap least_of m.are ∙ least-behind (length ns - length ss) (keys ss) ∙ least-first 0 hi ss r b (omega arith) (omega arith) in
      rw is ((elim (first ss) as (λ o. first ss ≡ o → cond (nat_eq (option_map_or (λ r. r.number) o nothing) nothing) None (Some (option_map_or (λ r. r.number) o nothing)) ≡ option_map (λ (r : Row T R). r.number) o) [
        | None ↦ λ e. refl
        | Some q ↦ λ e. let lt = found-below hi (λ (r : Row T R). p r.standing) ss q b e in let off : nat_eq q.number nothing ≡ false = eqb-apart q.number nothing (λ h. omega (arith, h, lt, few)) in rw off refl
      ]) refl)
