-- What the calls of the kit's cache make of a list of entries, in the words of the states.
use Rattle.std.proofs.Common.{◌≡◌, ℕ, zero, suc, ◌-◌, ◌<◌, ◌≤◌, true, false, cond, ◌⊎◌, inl, inr, List, [], ◌∷◌, length, take, Option, Some, None, refl, sym, ap, subst, arith, eqb-true}
use Rattle.std.specs.Prelude.{not, map, nat_eq}
use Rattle.std.specs.List.{AllByRecursion, IsDistinct}
use Rattle.std.specs.Option.{option_map_or}
use Rattle.std.specs.Map.{lookup, lookup_entry, remove_entry}
use Rattle.lru.specs.LruCache.{LruCache, lru_cache, promoted, put_entries}
use Rattle.state_cache.specs.States.{States, states, state_of, others, without, with_first, found_first, IsCache}

module _ {T : Type 0} where
  abbrev keys : List (ℕ × T) → List ℕ
  keys es = map (λ e. e.0) es

  -- no entry is of this id
  abbrev pub Away : ℕ → List (ℕ × T) → Type 0
  Away id es = AllByRecursion (λ k. nat_eq id k ≡ false) (keys es)

  others-away : (id : ℕ) (es : List (ℕ × T)) → Away id es → others id es ≡ es
  others-away id [] a = refl
  others-away id (e ∷ es) a = rw a.0 (ap (λ t. e ∷ t) (others-away id es a.1))

  all-others : (P : ℕ → Type 0) (id : ℕ) (es : List (ℕ × T)) → AllByRecursion P (keys es) → AllByRecursion P (keys (others id es))
  all-others P id [] a = a
  all-others P id (e ∷ es) a = elim (nat_eq id e.0) as (λ y. AllByRecursion P (keys (cond (not y) (e ∷ others id es) (others id es)))) [
    | true ↦ all-others P id es a.1
    | false ↦ (a.0, all-others P id es a.1)
  ]

  away-others : (id : ℕ) (es : List (ℕ × T)) → Away id (others id es)
  away-others id [] = tt
  away-others id (e ∷ es) = (elim (nat_eq id e.0) as (λ y. nat_eq id e.0 ≡ y → Away id (cond (not y) (e ∷ others id es) (others id es))) [
    | true ↦ λ t. away-others id es
    | false ↦ λ t. (t, away-others id es)
  ]) refl

  distinct-others : (id : ℕ) (es : List (ℕ × T)) → IsDistinct nat_eq (keys es) → IsDistinct nat_eq (keys (others id es))
  unfolding IsDistinct
  distinct-others id [] d = d
  distinct-others id (e ∷ es) d = elim (nat_eq id e.0) as (λ y. IsDistinct nat_eq (keys (cond (not y) (e ∷ others id es) (others id es)))) [
    | true ↦ distinct-others id es d.1
    | false ↦ (all-others (λ k. nat_eq e.0 k ≡ false) id es d.0, distinct-others id es d.1)
  ]

  remove-others : (id : ℕ) (es : List (ℕ × T)) → IsDistinct nat_eq (keys es) → remove_entry (nat_eq id) es ≡ others id es
  unfolding IsDistinct
  remove-others id [] d = refl
  remove-others id (e ∷ es) d = (elim (nat_eq id e.0) as (λ y. nat_eq id e.0 ≡ y → cond y es (e ∷ remove_entry (nat_eq id) es) ≡ cond (not y) (e ∷ others id es) (others id es)) [
    | true ↦ λ t. sym (others-away id es (subst (λ k. Away k es) (sym (eqb-true id e.0 t)) d.0))
    | false ↦ λ t. ap (λ t. e ∷ t) (remove-others id es d.1)
  ]) refl

  length-others : (id : ℕ) (es : List (ℕ × T)) → length (others id es) ≤ length es
  length-others id [] = omega arith
  length-others id (e ∷ es) = let h = length-others id es in elim (nat_eq id e.0) as (λ y. length (cond (not y) (e ∷ others id es) (others id es)) ≤ length (e ∷ es)) [
    | true ↦ omega (arith, h)
    | false ↦ omega (arith, h)
  ]

  -- an id is in none of the entries, or has one state, and then its others are fewer
  pub record Lacks (id : ℕ) (es : List (ℕ × T)) : Type 0 where
    pub entry : lookup_entry (nat_eq id) es ≡ None
    pub state : lookup (nat_eq id) es ≡ None
    pub away : Away id es

  pub record Has (id : ℕ) (es : List (ℕ × T)) : Type 0 where
    pub kept : T
    pub entry : lookup_entry (nat_eq id) es ≡ Some (id, kept)
    pub state : lookup (nat_eq id) es ≡ Some kept
    pub fewer : suc (length (others id es)) ≤ length es

  pub has : (id : ℕ) (es : List (ℕ × T)) → Lacks id es ⊎ Has id es
  has id [] = inl (record { entry = refl; state = refl; away = tt })
  has id (e ∷ es) = (elim (nat_eq id e.0) as (λ y. nat_eq id e.0 ≡ y → Lacks id (e ∷ es) ⊎ Has id (e ∷ es)) [
    | true ↦ λ t. inr (record {
      kept = e.1;
      entry = rw t (ap (λ k. Some (k, e.1)) (sym (eqb-true id e.0 t)));
      state = rw t refl;
      fewer = rw t (let h = length-others id es in omega (arith, h));
    })
    | false ↦ λ t. elim (has id es) [
      | inl l ↦ inl (record { entry = rw t l.entry; state = rw t l.state; away = (t, l.away) })
      | inr h ↦ inr (record { kept = h.kept; entry = rw t h.entry; state = rw t h.state; fewer = rw t (omega (arith, h.fewer)) })
    ]
  ]) refl

  all-take : (P : ℕ → Type 0) (n : ℕ) (es : List (ℕ × T)) → AllByRecursion P (keys es) → AllByRecursion P (keys (take n es))
  all-take P zero es a = tt
  all-take P (suc n) [] a = a
  all-take P (suc n) (e ∷ es) a = (a.0, all-take P n es a.1)

  distinct-take : (n : ℕ) (es : List (ℕ × T)) → IsDistinct nat_eq (keys es) → IsDistinct nat_eq (keys (take n es))
  unfolding IsDistinct
  distinct-take zero es d = tt
  distinct-take (suc n) [] d = d
  distinct-take (suc n) (e ∷ es) d = (all-take _ n es d.0, distinct-take n es d.1)

  within-take : (n : ℕ) (es : List (ℕ × T)) → length (take n es) ≤ n
  within-take zero es = omega arith
  within-take (suc n) [] = omega arith
  within-take (suc n) (e ∷ es) = let h = within-take n es in omega (arith, h)

  take-whole : (n : ℕ) (es : List (ℕ × T)) → length es ≤ n → take n es ≡ es
  take-whole zero [] h = refl
  take-whole zero (e ∷ es) h = absurd (omega arith)
  take-whole (suc n) [] h = refl
  take-whole (suc n) (e ∷ es) h = ap (λ t. e ∷ t) (take-whole n es (omega arith))

  take-front : (n : ℕ) (e : ℕ × T) (es : List (ℕ × T)) → 0 < n → take n (e ∷ es) ≡ e ∷ take (n - 1) es
  take-front zero e es h = absurd (omega arith)
  take-front (suc n) e es h = let m : suc n - 1 ≡ n = omega arith in rw m refl

  -- what stays valid
  pub valid-with_first : (id : ℕ) (state : T) (s : States T) → IsCache s → IsCache (with_first id state s)
  unfolding IsDistinct
  valid-with_first id state s v = record {
    once = distinct-take s.capacity ((id, state) ∷ others id s.entries) (away-others id s.entries, distinct-others id s.entries v.once);
    within = within-take s.capacity _;
    some = v.some;
  }

  pub valid-without : (id : ℕ) (s : States T) → IsCache s → IsCache (without id s)
  valid-without id s v = record {
    once = distinct-others id s.entries v.once;
    within = let h = length-others id s.entries in omega (arith, h, v.within);
    some = v.some;
  }

  found-valid : (id : ℕ) (s : States T) (o : Option T) → IsCache s → IsCache (option_map_or (λ state. with_first id state s) o s)
  found-valid id s None v = v
  found-valid id s (Some state) v = valid-with_first id state s v

  pub valid-found_first : (id : ℕ) (s : States T) → IsCache s → IsCache (found_first id s)
  valid-found_first id s v = found-valid id s (state_of id s) v

  put-first : (id : ℕ) (state : T) (es : List (ℕ × T)) (n : ℕ) → IsCache (states es n) → put_entries nat_eq (lru_cache es n) id state ≡ take n ((id, state) ∷ others id es)
  put-first id state es n v = elim (has id es) [
    | inl l ↦ rw (l.entry, others-away id es l.away) (sym (take-front n (id, state) es v.some))
    | inr h ↦ rw (h.entry, remove-others id es v.once) (sym (take-whole n ((id, state) ∷ others id es) (omega (arith, h.fewer, v.within))))
  ]

  promoted-first : (id : ℕ) (es : List (ℕ × T)) (n : ℕ) → IsCache (states es n) → states (promoted (nat_eq id) es) n ≡ found_first id (states es n)
  promoted-first id es n v = elim (has id es) [
    | inl l ↦ rw (l.entry, l.state) refl
    | inr h ↦ rw (h.entry, h.state, remove-others id es v.once) (ap (λ fs. states fs n) (sym (take-whole n ((id, h.kept) ∷ others id es) (omega (arith, h.fewer, v.within)))))
  ]

  -- what is seen of the kit's cache
  abbrev pub seen : LruCache ℕ T → States T
  seen c = states c.entries c.cap

  -- what each call of the kit's cache leaves
  pub put-seen : (id : ℕ) (state : T) (c d : LruCache ℕ T) → d ≡ lru_cache (put_entries nat_eq c id state) c.cap → IsCache (seen c) → seen d ≡ with_first id state (seen c)
  put-seen id state c d e v = rw (e, put-first id state c.entries c.cap v) refl

  pub promoted-seen : (id : ℕ) (c d : LruCache ℕ T) → d ≡ lru_cache (promoted (nat_eq id) c.entries) c.cap → IsCache (seen c) → seen d ≡ found_first id (seen c)
  promoted-seen id c d e v = rw e (promoted-first id c.entries c.cap v)

  pub pop-seen : (id : ℕ) (c d : LruCache ℕ T) → d ≡ lru_cache (remove_entry (nat_eq id) c.entries) c.cap → IsCache (seen c) → seen d ≡ without id (seen c)
  pop-seen id c d e v = rw (e, remove-others id c.entries v.once) refl
