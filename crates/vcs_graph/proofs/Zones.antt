-- A zone that is opened.
use Rattle.std.proofs.Common.{
  ◌≡◌,
  ◌⊎◌,
  inl,
  inr,
  ℕ,
  zero,
  suc,
  ◌+◌,
  ◌<◌,
  ◌≤◌,
  nat_eq,
  List,
  [],
  ◌∷◌,
  ◌++◌,
  length,
  take,
  drop,
  Bool,
  true,
  false,
  cond,
  Option,
  Some,
  None,
  refl,
  sym,
  ap,
  subst,
  ◌∙◌,
  arith,
  length-append,
  length-take-le,
  append_assoc,
  slice_set,
  slice_index_or,
}
use Rattle.std.specs.Prelude.{is_some}
use Rattle.line_theory.specs.Lists.{has}
use Rattle.indexmap.specs.IndexMap.{IndexMap, index_map_len}
use Rattle.line_theory.specs.Shapes.{Item, lone, block, End, proof, zone}
use Rattle.line_theory.specs.Lines.{
  Closing,
  Line,
  item_ids,
  items_ids,
  end_ids,
  ids,
  front,
  split,
  locate,
  OpensAt,
  Opens,
  zoned_inside,
  zoned_at,
  zoned,
}
use Rattle.line_theory.proofs.Folded.{items_join as ids_join}
use Rattle.vcs_graph.specs.declared.place.Place.{Place}
use Rattle.vcs_graph.specs.declared.place.Part.{Part}
use Rattle.vcs_graph.specs.declared.place.Part.TheVariants.{First, Inside, Closer}
use Rattle.vcs_graph.specs.declared.graph.Opened.{Opened}
use Rattle.vcs_graph.specs.Parts.{inside_of, with_inside, IsBlock, keep}
use Rattle.vcs_graph.specs.Table.{look, Apart, item_places, items_places, end_places, all_places, IsTable}
use Rattle.vcs_graph.specs.GraphView.{line_of, zone_from, OpensFirst, ZoneFits, Kept, IsStart}
use Rattle.vcs_graph.proofs.Places.{items_join, keys_has, end_keys}
use Rattle.vcs_graph.proofs.Viewed.{line_ids, kept_size, take_drop}
use Rattle.vcs_graph.proofs.Keeps.{zone_at, zone_whole}
use Rattle.vcs_graph.proofs.Lookups.{eq_is, eq_self, none_right}
use Rattle.vcs_graph.proofs.Located.{spot_of, IsPart, IsEndPart, Spotted, end_spotted, found_item, found_end}
use Rattle.vcs_graph.proofs.Befores.{parted_by}

-- the items of a count, one more
pub count_step : (xs : List (Item ℕ Closing)) (k n : ℕ) (x : Item ℕ Closing) → n ≡ suc k → k < length xs → x ≡ slice_index_or xs k x
    → (length (items_ids (take n xs)) ≡ length (items_ids (take k xs)) + length (item_ids x)) ×
    (length (items_ids (take k xs)) + length (item_ids x) ≤ length (items_ids xs))
count_step [] k n x e h g = absurd (omega arith)
count_step (y ∷ ys) zero n x e h g = subst (λ z. (length (items_ids (take z (y ∷ ys))) ≡ 0 + length (item_ids x)) ×
    (0 + length (item_ids x) ≤ length (items_ids (y ∷ ys)))) (sym e) (first (ap (λ z. length (item_ids z)) g))
  where
    first : length (item_ids x) ≡ length (item_ids y) → (length (item_ids y ++ []) ≡ 0 + length (item_ids x)) ×
        (0 + length (item_ids x) ≤ length (item_ids y ++ items_ids ys))
    first q = (omega (arith, length-append (item_ids y) []), omega (arith, length-append (item_ids y) (items_ids ys)))
count_step (y ∷ ys) (suc k) n x e h g =
    let r = count_step ys k (suc k) x refl (omega arith) g in
    subst (λ z. (length (items_ids (take z (y ∷ ys))) ≡ length (item_ids y ++ items_ids (take k ys)) + length (item_ids x)) ×
    (length (item_ids y ++ items_ids (take k ys)) + length (item_ids x) ≤ length (item_ids y ++ items_ids ys))) (sym e)
    (more (length (items_ids (take (suc k) ys))) (length (items_ids (take k ys))) (length (items_ids ys)) r.0 r.1)
  where
    more : (p q t : ℕ) → length (items_ids (take (suc k) ys)) ≡ length (items_ids (take k ys)) + length (item_ids x) →
        length (items_ids (take k ys)) + length (item_ids x) ≤ length (items_ids ys)
        → (length (item_ids y ++ items_ids (take (suc k) ys)) ≡ length (item_ids y ++ items_ids (take k ys)) + length
        (item_ids x)) × (length (item_ids y ++ items_ids (take k ys)) + length (item_ids x) ≤ length (item_ids y ++ items_ids ys))
    more p q t a b = (
      omega (arith, a, length-append (item_ids y) (items_ids (take (suc k) ys)), length-append (item_ids y) (items_ids (take k ys))),
      omega (arith, b, length-append (item_ids y) (items_ids (take k ys)), length-append (item_ids y) (items_ids ys)),
    )

pub take_more : (i j : ℕ) (b : List ℕ) → j < length b → b ≡ take j b ++ (i ∷ drop (suc j) b) → take (suc j) b ≡ take j b ++ (i ∷ [])
take_more i j [] h e = absurd (omega arith)
take_more i zero (x ∷ b) h e = let q : x ≡ i = cc in ap (λ z. z ∷ []) q
take_more i (suc j) (x ∷ b) h e = let q : b ≡ take j b ++ (i ∷ drop (suc j) b) = cc in ap (λ z. x ∷ z) (take_more i j b (omega arith) q)

lt_or : (x y : ℕ) → (x < y) ⊎ (y ≤ x)
lt_or x zero = inr (omega arith)
lt_or zero (suc y) = inl (omega arith)
lt_or (suc x) (suc y) = up (lt_or x y)
  where
    up : (x < y) ⊎ (y ≤ x) → (suc x < suc y) ⊎ (suc y ≤ suc x)
    up (inl h) = inl (omega arith)
    up (inr h) = inr (omega arith)

-- the block in which a zone is opened
pub record Opening (a : List (Item ℕ Closing)) (o : End ℕ) (z : Option Opened) (n kept : ℕ) (d : Line) : Type 0 where
  pub before : List (Item ℕ Closing)
  pub lemma : ℕ
  pub inside : List ℕ
  pub closer : Closing
  pub rest : List (Item ℕ Closing)
  pub whole : a ≡ before ++ (block lemma inside closer ∷ rest)
  pub count : length before ≡ n
  pub opaque : closer.opaque ≡ true
  pub fits : kept ≤ length inside
  pub new : d ≡ record { items = before; focus = zone lemma (take kept inside) closer rest o }
  pub start : (r : ℕ) → IsStart z (length (items_ids (take n a))) r → r ≡ length (items_ids (take n a))

opening_none : {S : Type 0} {a : List (Item ℕ Closing)} {o : End ℕ} {m : IndexMap ℕ Place S} → Kept a o None m →
    (i : ℕ) (p : Place) (r : Option Place) → r ≡ look i (all_places a o) → r ≡ Some p
    → OpensAt (locate i a) → Opening a o None p.item (keep p.part) (zoned i (line_of a o None))
opening_none {a = a} {o = o} k i p r e f h = by (lt_or p.item (length a))
  where
    block_case : (s : Spotted i 0 p a) (x : Item ℕ Closing) (q : Part) → p.part ≡ q → s.item ≡ x → IsPart i q x →
        OpensAt (spot_of q s.front x s.rest) → Opening a o None p.item (keep p.part) (zoned i (line_of a o None))
    block_case s (lone y) First u v w g = absurd g
    block_case s (lone y) (Inside j) u v w g = absurd g
    block_case s (lone y) Closer u v w g = absurd g
    block_case s (block l b c) Closer u v w g = absurd g
    block_case s (block l b c) First u v w g = record {
      before = s.front;
      lemma = l;
      inside = b;
      closer = c;
      rest = s.rest;
      whole = s.whole ∙ ap (λ y. s.front ++ (y ∷ s.rest)) v;
      count = omega (arith, s.count);
      opaque = g;
      fits = subst (λ y. keep y ≤ length b) (sym u) (omega arith);
      new = ap (λ y. zoned_at i y (line_of a o None) o) (s.spot ∙ (ap (λ y. spot_of y s.front s.item s.rest) u ∙
          ap (λ y. spot_of First s.front y s.rest) v))
          ∙ (ap (λ y. record { items = s.front; focus = zone y [] c s.rest o }) w ∙
          ap (λ y. record { items = s.front; focus = zone l (take (keep y) b) c s.rest o }) (sym u));
      start = λ r e. e;
    }
    block_case s (block l b c) (Inside zero) u v w g = absurd g
    block_case s (block l b c) (Inside (suc j)) u v w g = record {
      before = s.front;
      lemma = l;
      inside = b;
      closer = c;
      rest = s.rest;
      whole = s.whole ∙ ap (λ y. s.front ++ (y ∷ s.rest)) v;
      count = omega (arith, s.count);
      opaque = g;
      fits = subst (λ y. keep y ≤ length b) (sym u) (omega (arith, w.0));
      new = ap (λ y. zoned_at i y (line_of a o None) o) (s.spot ∙ (ap (λ y. spot_of y s.front s.item s.rest) u ∙
          ap (λ y. spot_of (Inside (suc j)) s.front y s.rest) v))
          ∙ (ap (λ y. record { items = s.front; focus = zone l y c s.rest o }) (sym (take_more i j b w.0 w.1)) ∙
          ap (λ y. record { items = s.front; focus = zone l (take (keep y) b) c s.rest o }) (sym u));
      start = λ r e. e;
    }

    by : (p.item < length a) ⊎ (length a ≤ p.item) → Opening a o None p.item (keep p.part) (zoned i (line_of a o None))
    by (inl q) = let s = found_item i p a o (sym e ∙ f) q in block_case s s.item p.part refl refl s.part (subst OpensAt s.spot h)
    by (inr q) = let s = found_end i p a o (sym e ∙ f) q in absurd (subst OpensAt s.0 h)

set_by : {A : Type 0} (f : List A) (x v : A) (t xs : List A) (k : ℕ) → xs ≡ f ++ (x ∷ t) → length f ≡ k → slice_set xs k v ≡ f ++ (v ∷ t)
set_by {A = A} f x v t xs k e c = subst (λ y. slice_set xs y v ≡ f ++ (v ∷ t)) c (ap (λ y. slice_set y (length f) v) e ∙ go f)
  where
    go : (f : List A) → slice_set (f ++ (x ∷ t)) (length f) v ≡ f ++ (v ∷ t)
    go [] = refl
    go (y ∷ f) = ap (λ z. y ∷ z) (go f)

front_taken : {A : Type 0} (f t : List A) (k : ℕ) → length f ≡ k → take k (f ++ t) ≡ f
front_taken {A = A} f t k e = subst (λ y. take y (f ++ t) ≡ f) e (go f)
  where
    go : (f : List A) → take (length f) (f ++ t) ≡ f
    go [] = refl
    go (x ∷ f) = ap (λ y. x ∷ y) (go f)

front_dropped : {A : Type 0} (f t : List A) (k : ℕ) → length f ≡ k → drop k (f ++ t) ≡ t
front_dropped {A = A} f t k e = subst (λ y. drop y (f ++ t) ≡ t) e (go f)
  where
    go : (f : List A) → drop (length f) (f ++ t) ≡ t
    go [] = refl
    go (x ∷ f) = go f

pub places_item : (f : List (Item ℕ Closing)) (v : Item ℕ Closing) (t : List (Item ℕ Closing)) (o : End ℕ)
    → all_places (f ++ (v ∷ t)) o ≡ items_places 0 f ++ (item_places (length f) v ++ (items_places (suc (length f)) t
    ++ end_places (length f + suc (length t)) o))
places_item f v t o = rw (items_join 0 (length f) f (v ∷ t) (omega arith), length-append f (v ∷ t)) (simp append_assoc)

-- the zone's line and what is kept of the table
pub opened_line : (f : List (Item ℕ Closing)) (l : ℕ) (b : List ℕ) (c : Closing) (t : List (Item ℕ Closing)) (o : End ℕ)
    (z : Opened) → length f ≡ z.item
    → line_of (f ++ (block l b c ∷ t)) o (Some z) ≡ record { items = f; focus = zone l b c t o }
opened_line f l b c t o z e = ap (λ y. zone_from y (drop z.item (f ++ (block l b c ∷ t))) o) (front_taken f (block l b c ∷ t)
    z.item e) ∙ ap (λ y. zone_from f y o) (front_dropped f (block l b c ∷ t) z.item e)

apart_left : {V : Type 0} (q : ℕ) (x y : List (ℕ × V)) → Apart (x ++ y) → is_some (look q y) ≡ true → look q x ≡ None
apart_left q [] y h k = refl
apart_left {V = V} q (e ∷ x) y h k = go (nat_eq q e.0) refl (apart_left q x y h.1 k)
  where
    go : (t : Bool) → nat_eq q e.0 ≡ t → look q x ≡ None → cond t (Some e.1) (look q x) ≡ None
    go false u r = r
    go true u r =
        let s : q ≡ e.0 = eq_is q e.0 u in
        let n : look q y ≡ None = none_right q x y (ap (λ z. look z (x ++ y)) s ∙ h.0) in
        absurd (cc)

look_skip : {V : Type 0} (q : ℕ) (x y : List (ℕ × V)) → look q x ≡ None → look q (x ++ y) ≡ look q y
look_skip q [] y h = refl
look_skip {V = V} q (e ∷ x) y h = go (nat_eq q e.0) (look_skip q x y) h
  where
    go : (t : Bool) → (look q x ≡ None → look q (x ++ y) ≡ look q y) → cond t (Some e.1) (look q x) ≡ None →
        cond t (Some e.1) (look q (x ++ y)) ≡ look q y
    go true r h = absurd (cc)
    go false r h = r h

pub look_left : {V : Type 0} (q : ℕ) (x y : List (ℕ × V)) (v : V) → is_some (look q x) ≡ true → look q (x ++ y) ≡ Some v → look q x ≡ Some v
look_left q [] y v h k = absurd (cc)
look_left {V = V} q (e ∷ x) y v h k = go (nat_eq q e.0) (look_left q x y v) h k
  where
    go : (t : Bool) → (is_some (look q x) ≡ true → look q (x ++ y) ≡ Some v → look q x ≡ Some v) →
        is_some (cond t (Some e.1) (look q x)) ≡ true → cond t (Some e.1) (look q (x ++ y)) ≡ Some v → cond t (Some e.1) (look q x) ≡ Some v
    go true r h k = k
    go false r h k = r h k

zone_spot : (i : ℕ) (q : Part) (a : List (Item ℕ Closing)) (l : ℕ) (b : List ℕ) (c : Closing) (t : List (Item ℕ Closing))
    (o : End ℕ) → IsEndPart i q (proof l b)
    → zoned i (record { items = a; focus = zone l b c t o }) ≡ record { items = a; focus = zone l (take (keep q) b) c t o }
zone_spot i First a l b c t o h =
    let e : nat_eq i l ≡ true = subst (λ y. nat_eq i y ≡ true) h (eq_self i) in
    ap (λ x. cond x (record { items = a; focus = zone l [] c t o }) (zoned_inside a l b c t o i (split i b))) e
zone_spot i (Inside zero) a l b c t o h = absurd h
zone_spot i (Inside (suc j)) a l b c t o h =
    ap (λ x. cond x (record { items = a; focus = zone l [] c t o }) (zoned_inside a l b c t o i (split i b))) h.0
    ∙ (ap (zoned_inside a l b c t o i) h.1.1.1 ∙ ap (λ y. record { items = a; focus = zone l y c t o })
    (sym (take_more i j b h.1.0 h.1.1.0)))
zone_spot i Closer a l b c t o h = absurd h

zone_fits : (i : ℕ) (q : Part) (l : ℕ) (b : List ℕ) → IsEndPart i q (proof l b) → keep q ≤ length b
zone_fits i First l b h = omega arith
zone_fits i (Inside zero) l b h = absurd h
zone_fits i (Inside (suc j)) l b h = omega (arith, h.1.0)
zone_fits i Closer l b h = absurd h

-- the zone that is open, opened again
reopening : {S : Type 0} {a : List (Item ℕ Closing)} {o : End ℕ} {z : Opened} {m : IndexMap ℕ Place S} → Kept a o (Some z) m →
    (i : ℕ) (p : Place) (r : Option Place) → r ≡ look i (all_places a o) → r ≡ Some p
    → Opens i (line_of a o (Some z)) → Opening a o (Some z) p.item (keep p.part) (zoned i (line_of a o (Some z)))
reopening {a = a} {o = o} {z = z} k i p r e f h =
    let w = zone_at a z k.zone in
    let n : length w.before ≡ z.item = sym (ap length w.is_front) ∙ w.parts.count in
    let whole : a ≡ w.before ++ (block w.lemma w.inside w.closer ∷ w.rest) = zone_whole a z w in
    let line : line_of a o (Some z) ≡ record { items = w.before; focus = zone w.lemma w.inside w.closer w.rest o } =
    ap (λ y. line_of y o (Some z)) whole ∙ opened_line w.before w.lemma w.inside w.closer w.rest o z n in
    let here : has i (w.lemma ∷ w.inside) ≡ true = subst (Opens i) line h in
    let tail : List (ℕ × Place) = (w.closer.id, record { item = length w.before; part = Closer })
    ∷ (items_places (suc (length w.before)) w.rest ++ end_places (length w.before + suc (length w.rest)) o) in
    let all : all_places a o ≡ items_places 0 w.before ++ (end_places (length w.before) (proof w.lemma w.inside) ++ tail) =
    ap (λ y. all_places y o) whole ∙ (places_item w.before (block w.lemma w.inside w.closer) w.rest o ∙
    around w.before w.lemma w.inside w.closer w.rest o) in
    let some : is_some (look i (end_places (length w.before) (proof w.lemma w.inside))) ≡ true =
    sym (keys_has i (end_places (length w.before) (proof w.lemma w.inside))) ∙
    (ap (has i) (end_keys (length w.before) (proof w.lemma w.inside)) ∙ here) in
    let none : look i (items_places 0 w.before) ≡ None =
    apart_left i (items_places 0 w.before) (end_places (length w.before) (proof w.lemma w.inside) ++ tail)
    (subst Apart all k.table.apart) (some_left i (end_places (length w.before) (proof w.lemma w.inside)) tail some) in
    let at : look i (end_places (length w.before) (proof w.lemma w.inside) ++ tail) ≡ Some p =
    sym (look_skip i (items_places 0 w.before) (end_places (length w.before) (proof w.lemma w.inside) ++ tail) none) ∙
    (sym (ap (look i) all) ∙ (sym e ∙ f)) in
    let s = end_spotted i (length w.before) p (proof w.lemma w.inside)
    (look_left i (end_places (length w.before) (proof w.lemma w.inside)) tail p some at) in
    record {
      before = w.before;
      lemma = w.lemma;
      inside = w.inside;
      closer = w.closer;
      rest = w.rest;
      whole = whole;
      count = sym s.0;
      opaque = w.opaque;
      fits = zone_fits i p.part w.lemma w.inside s.1;
      new = ap (zoned i) line ∙ zone_spot i p.part w.before w.lemma w.inside w.closer w.rest o s.1;
      start = λ r q. q ∙ (w.start ∙ ap (λ y. length (items_ids y))
          (sym (ap (take p.item) whole ∙ front_taken w.before (block w.lemma w.inside w.closer ∷ w.rest) p.item (sym s.0))));
    }
  where
    around : (f : List (Item ℕ Closing)) (l : ℕ) (b : List ℕ) (c : Closing) (t : List (Item ℕ Closing)) (o : End ℕ)
        → items_places 0 f ++ (item_places (length f) (block l b c) ++ (items_places (suc (length f)) t
        ++ end_places (length f + suc (length t)) o))
        ≡ items_places 0 f ++ (end_places (length f) (proof l b) ++ ((c.id, record { item = length f; part = Closer })
        ∷ (items_places (suc (length f)) t ++ end_places (length f + suc (length t)) o)))
    around f l b c t o = simp append_assoc

    some_left : (q : ℕ) (x y : List (ℕ × Place)) → is_some (look q x) ≡ true → is_some (look q (x ++ y)) ≡ true
    some_left q [] y h = absurd (cc)
    some_left q (e ∷ x) y h = go (nat_eq q e.0) (some_left q x y) h
      where
        go : (t : Bool) → (is_some (look q x) ≡ true → is_some (look q (x ++ y)) ≡ true) →
            is_some (cond t (Some e.1) (look q x)) ≡ true → is_some (cond t (Some e.1) (look q (x ++ y))) ≡ true
        go true r h = refl
        go false r h = r h

pub opening : {S : Type 0} {a : List (Item ℕ Closing)} {o : End ℕ} {m : IndexMap ℕ Place S} (z : Option Opened) → Kept a o z m →
    (i : ℕ) (p : Place) (r : Option Place) → r ≡ look i (all_places a o) → r ≡ Some p
    → Opens i (line_of a o z) → Opening a o z p.item (keep p.part) (zoned i (line_of a o z))
opening None k i p r e f h = opening_none k i p r e f h
opening (Some z) k i p r e f h = reopening k i p r e f h

module _ {a : List (Item ℕ Closing)} {o : End ℕ} {z : Option Opened} {n kept : ℕ} {d : Line} (w : Opening a o z n kept d)
    (x : Item ℕ Closing) (xe : x ≡ slice_index_or a n x) where
  pub opening_item : x ≡ block w.lemma w.inside w.closer
  opening_item = xe ∙ (parted_by w.before (block w.lemma w.inside w.closer) w.rest a n w.whole w.count).1 x

  pub opening_block : IsBlock x
  opening_block = subst IsBlock (sym opening_item) tt

  pub opening_set : (v : Item ℕ Closing) → v ≡ with_inside (take kept (inside_of x)) x → slice_set a n v ≡ w.before
      ++ (block w.lemma (take kept w.inside) w.closer ∷ w.rest)
  opening_set v ve = set_by w.before (block w.lemma w.inside w.closer) v w.rest a n w.whole w.count
      ∙ ap (λ y. w.before ++ (y ∷ w.rest)) (ve ∙ ap (λ y. with_inside (take kept (inside_of y)) y) opening_item)

-- what is kept of the table
pub opened_kept : {S : Type 0} {a : List (Item ℕ Closing)} {o : End ℕ} {m m1 : IndexMap ℕ Place S} {z : Option Opened}
    {n kept : ℕ} {d : Line} → IsTable m (all_places a o) → (w : Opening a o z n kept d) (x v : Item ℕ Closing) → x ≡ slice_index_or a n x
    → v ≡ with_inside (take kept (inside_of x)) x
    → ((k : ℕ) (y u : List (ℕ × Place)) → IsTable m (y ++ (item_places k x ++ u)) → IsTable m1 (y ++ (item_places k v ++ u)))
    → (s : ℕ) → s ≡ length (items_ids (take n a)) → Kept (slice_set a n v) o (Some (record { item = n; start = s })) m1
opened_kept {a = a} {o = o} {m = m} {m1 = m1} {n = n} {kept = kept} h w x v xe ve step s se =
    let xb = opening_item w x xe in
    let vb : v ≡ block w.lemma (take kept w.inside) w.closer = ve ∙ ap (λ y. with_inside (take kept (inside_of y)) y) xb in
    let q = opening_set w x xe v ve in
    let behind : List (ℕ × Place) = items_places (suc (length w.before)) w.rest ++ end_places (length w.before + suc (length w.rest)) o in
    let t0 : IsTable m (items_places 0 w.before ++ (item_places (length w.before) x ++ behind)) =
    subst (λ y. IsTable m (items_places 0 w.before ++ (item_places (length w.before) y ++ behind))) (sym xb)
    (subst (λ y. IsTable m y) (ap (λ y. all_places y o) w.whole ∙ places_item w.before (block w.lemma w.inside w.closer) w.rest o) h) in
    let t1 : IsTable m1 (items_places 0 w.before ++ (item_places (length w.before) v ++ behind)) =
    step (length w.before) (items_places 0 w.before) behind t0 in
    let t2 : IsTable m1 (items_places 0 w.before ++ (item_places (length w.before) (block w.lemma (take kept w.inside) w.closer)
    ++ behind)) =
    subst (λ y. IsTable m1 (items_places 0 w.before ++ (item_places (length w.before) y ++ behind))) vb t1 in
    let taken : take n a ≡ w.before = ap (take n) w.whole ∙ front_taken w.before (block w.lemma w.inside w.closer ∷ w.rest) n w.count in
    record {
      table = subst (λ y. IsTable m1 (all_places y o)) (sym q)
          (subst (λ y. IsTable m1 y) (sym (places_item w.before (block w.lemma (take kept w.inside) w.closer) w.rest o)) t2);
      zone = subst (λ y. ZoneFits y (Some (record { item = n; start = s }))) (sym q) (
        subst OpensFirst (sym (front_dropped w.before (block w.lemma (take kept w.inside) w.closer ∷ w.rest) n w.count)) w.opaque,
        se ∙ (ap (λ y. length (items_ids y)) taken ∙ ap (λ y. length (items_ids y))
            (sym (front_taken w.before (block w.lemma (take kept w.inside) w.closer ∷ w.rest) n w.count))),
      );
    }

pub opened_is : {a : List (Item ℕ Closing)} {o : End ℕ} {z : Option Opened} {n kept : ℕ} {d : Line} (w : Opening a o z n kept d)
    (x v : Item ℕ Closing) → x ≡ slice_index_or a n x
    → v ≡ with_inside (take kept (inside_of x)) x → (s : ℕ)
    → line_of (slice_set a n v) o (Some (record { item = n; start = s })) ≡ d
opened_is {o = o} {n = n} {kept = kept} w x v xe ve s =
    ap (λ y. line_of y o (Some (record { item = n; start = s }))) (opening_set w x xe v ve)
    ∙ (opened_line w.before w.lemma (take kept w.inside) w.closer w.rest o (record { item = n; start = s }) w.count ∙ sym w.new)

pub opening_taken : {a : List (Item ℕ Closing)} {o : End ℕ} {z : Option Opened} {n kept : ℕ} {d : Line}
    (w : Opening a o z n kept d) → take n a ≡ w.before
opening_taken {a = a} {n = n} {kept = kept} w = ap (take n) w.whole ∙ front_taken w.before (block w.lemma w.inside w.closer
    ∷ w.rest) n w.count

pub opening_below : {a : List (Item ℕ Closing)} {o : End ℕ} {z : Option Opened} {n kept : ℕ} {d : Line}
    (w : Opening a o z n kept d) → n < length a
opening_below {a = a} w = let h : length a ≡ length w.before + length (block w.lemma w.inside w.closer ∷ w.rest) =
    ap length w.whole ∙ length-append w.before (block w.lemma w.inside w.closer ∷ w.rest) in omega (arith, w.count)

pub opening_room : {S : Type 0} {a : List (Item ℕ Closing)} {o : End ℕ} {n kept : ℕ} {d : Line} {z : Option Opened}
    {m : IndexMap ℕ Place S} → Kept a o z m → Opening a o z n kept d
    → length (items_ids (take n a)) + kept + 2 ≤ index_map_len m
opening_room {a = a} {o = o} {n = n} {kept = kept} {z = z} {m = m} k w =
    let s : length (ids (line_of a o z)) ≡ index_map_len m = kept_size k in
    let t : ids (line_of a o z) ≡ items_ids a ++ end_ids o = line_ids a o z k.zone in
    let q : items_ids a ≡ items_ids w.before ++ (item_ids (block w.lemma w.inside w.closer) ++ items_ids w.rest) =
    ap items_ids w.whole ∙ ids_join w.before (block w.lemma w.inside w.closer ∷ w.rest) in
    let u : length ((items_ids w.before ++ (item_ids (block w.lemma w.inside w.closer) ++ items_ids w.rest)) ++ end_ids o)
    ≡ index_map_len m = sym (ap (λ y. length (y ++ end_ids o)) q) ∙ (sym (ap length t) ∙ s) in
    room w.before w.lemma w.inside w.closer w.rest o (index_map_len m) (length (items_ids (take n a))) kept
    (ap (λ y. length (items_ids y)) (opening_taken w)) w.fits u
  where
    room : (f : List (Item ℕ Closing)) (l : ℕ) (b : List ℕ) (c : Closing) (t : List (Item ℕ Closing)) (o : End ℕ)
        (n start k : ℕ) → start ≡ length (items_ids f) → k ≤ length b
        → length ((items_ids f ++ (item_ids (block l b c) ++ items_ids t)) ++ end_ids o) ≡ n → start + k + 2 ≤ n
    room f l b c t o n start k e g u =
        omega (
          arith,
          length-append (items_ids f ++ (item_ids (block l b c) ++ items_ids t)) (end_ids o),
          length-append (items_ids f) (item_ids (block l b c) ++ items_ids t),
          length-append (item_ids (block l b c)) (items_ids t),
          length-append b (c.id ∷ []),
        )

pub opened_at : {a : List (Item ℕ Closing)} {o : End ℕ} {z : Option Opened} {n kept : ℕ} {d : Line} (w : Opening a o z n kept d)
    (x v : Item ℕ Closing) → x ≡ slice_index_or a n x
    → v ≡ with_inside (take kept (inside_of x)) x → (s : ℕ) → s ≡ length (items_ids (take n a))
    → s + kept + 1 ≡ length (front (line_of (slice_set a n v) o (Some (record { item = n; start = s }))))
opened_at {a = a} {o = o} {n = n} {kept = kept} w x v xe ve s se =
    let t : length (items_ids w.before ++ (w.lemma ∷ take kept w.inside)) ≡ length (items_ids w.before) + length
    (w.lemma ∷ take kept w.inside) = length-append (items_ids w.before) (w.lemma ∷ take kept w.inside) in
    let u : s ≡ length (items_ids w.before) = se ∙ ap (λ y. length (items_ids y)) (opening_taken w) in
    let r : length (take kept w.inside) ≡ kept = length-take-le kept w.inside w.fits in
    let here : s + kept + 1 ≡ length (items_ids w.before ++ (w.lemma ∷ take kept w.inside)) = omega (arith, t, u, r) in
    here ∙ sym (ap (λ y. length (front y)) (ap (λ y. line_of y o (Some (record { item = n; start = s }))) (opening_set w x xe v ve)
    ∙ opened_line w.before w.lemma (take kept w.inside) w.closer w.rest o (record { item = n; start = s }) w.count))

-- the ids before the change and after it
pub opening_was : {S : Type 0} {a : List (Item ℕ Closing)} {o : End ℕ} {n kept : ℕ} {d : Line} {z : Option Opened}
    {m : IndexMap ℕ Place S} → Kept a o z m → (w : Opening a o z n kept d)
    → ids (line_of a o z) ≡ (items_ids w.before ++ (w.lemma ∷ take kept w.inside))
    ++ (drop kept w.inside ++ (w.closer.id ∷ (items_ids w.rest ++ end_ids o)))
opening_was {a = a} {o = o} {kept = kept} {z = z} k w =
    line_ids a o z k.zone ∙ (ap (λ y. items_ids y ++ end_ids o) w.whole ∙
    (ap (λ y. y ++ end_ids o) (ids_join w.before (block w.lemma w.inside w.closer ∷ w.rest))
    ∙ (ap (λ y. (items_ids w.before ++ ((w.lemma ∷ (y ++ (w.closer.id ∷ []))) ++ items_ids w.rest)) ++ end_ids o)
    (sym (take_drop kept w.inside))
    ∙ around (items_ids w.before) (take kept w.inside) (drop kept w.inside) (items_ids w.rest) (end_ids o) w.lemma w.closer.id)))
  where
    around : (f b e t o : List ℕ) (l c : ℕ) → (f ++ ((l ∷ ((b ++ e) ++ (c ∷ []))) ++ t)) ++ o ≡ (f ++ (l ∷ b)) ++ (e ++ (c ∷ (t ++ o)))
    around f b e t o l c = simp append_assoc

pub opening_now : {a : List (Item ℕ Closing)} {o : End ℕ} {n kept : ℕ} {d : Line} {z : Option Opened} (w : Opening a o z n kept d)
    → ids d ≡ (items_ids w.before ++ (w.lemma ∷ take kept w.inside)) ++ (w.closer.id ∷ (items_ids w.rest ++ end_ids o))
opening_now w = ap ids w.new
