-- What each change keeps: the table, and where the zone is.
use Rattle.std.proofs.Common.{
  ◌≡◌,
  ℕ,
  zero,
  suc,
  ◌+◌,
  ◌<◌,
  nat_eq,
  List,
  [],
  ◌∷◌,
  ◌++◌,
  length,
  take,
  drop,
  true,
  false,
  Option,
  Some,
  None,
  refl,
  sym,
  ap,
  subst,
  ◌∙◌,
  arith,
  length-append,
  append_assoc,
  append-nil,
  slice_set,
  slice_index_or,
}
use Rattle.std.specs.Prelude.{is_some}
use Rattle.indexmap.specs.IndexMap.{IndexMap, get, index_map_len}
use Rattle.line_theory.specs.Lists.{has, last_or}
use Rattle.line_theory.specs.Shapes.{Item, lone, block, End, closed, proof, Focus, last, zone}
use Rattle.line_theory.specs.Lines.{Closing, Line, item_ids, items_ids, end_ids, ids, front, cursor, AtEnd, InProof, InZone}
use Rattle.line_theory.proofs.Folded.{items_join as ids_join}
use Rattle.vcs_graph.specs.declared.place.Place.{Place}
use Rattle.vcs_graph.specs.declared.place.Part.TheVariants.{First, Inside, Closer}
use Rattle.vcs_graph.specs.declared.segment.Closer.{Closer as Ends}
use Rattle.vcs_graph.specs.declared.graph.Opened.{Opened}
use Rattle.vcs_graph.specs.Parts.{first_of, inside_of, with_inside, IsOpen, body_of, with_body, lemma_of, ended_of, ended}
use Rattle.vcs_graph.specs.Table.{look, items_places, all_places, IsTable}
use Rattle.vcs_graph.specs.GraphView.{zone_from, line_of, OpensFirst, ZoneFits, Kept}
use Rattle.vcs_graph.proofs.Places.{Parted, parted, up_to, from, places_around, up_push, items_join}
use Rattle.vcs_graph.proofs.Viewed.{line_ids, kept_has, kept_size}
use Rattle.vcs_graph.proofs.Lasts.{last_join}

-- ---- the zone

below : {A : Type 0} (P : List A → Type 0) → (P [] → ⊥) → (k : ℕ) (xs : List A) → P (drop k xs) → k < length xs
below P none zero [] h = absurd (none h)
below P none (suc k) [] h = absurd (none h)
below P none zero (x ∷ xs) h = omega arith
below P none (suc k) (x ∷ xs) h = let r = below P none k xs h in omega arith

-- the items around the zone
pub record ZoneAt (a : List (Item ℕ Closing)) (z : Opened) : Type 0 where
  pub before : List (Item ℕ Closing)
  pub lemma : ℕ
  pub inside : List ℕ
  pub closer : Closing
  pub rest : List (Item ℕ Closing)
  pub parts : Parted a z.item
  pub is_front : parts.front ≡ before
  pub is_item : parts.item ≡ block lemma inside closer
  pub is_rest : parts.rest ≡ rest
  pub opaque : closer.opaque ≡ true
  pub start : z.start ≡ length (items_ids before)

pub zone_at : (a : List (Item ℕ Closing)) (z : Opened) → ZoneFits a (Some z) → ZoneAt a z
zone_at a z h = go p.item refl (subst OpensFirst p.dropped h.0)
  where
    p : Parted a z.item
    p = parted a z.item (below OpensFirst (λ x. x) z.item a h.0)

    go : (x : Item ℕ Closing) → p.item ≡ x → OpensFirst (p.item ∷ p.rest) → ZoneAt a z
    go (lone i) e k = absurd (subst (λ y. OpensFirst (y ∷ p.rest)) e k)
    go (block l b c) e k = record {
      before = p.front;
      lemma = l;
      inside = b;
      closer = c;
      rest = p.rest;
      parts = p;
      is_front = refl;
      is_item = e;
      is_rest = refl;
      opaque = subst (λ y. OpensFirst (y ∷ p.rest)) e k;
      start = h.1 ∙ ap (λ y. length (items_ids y)) p.taken;
    }

-- the items are those around the zone
pub zone_whole : (a : List (Item ℕ Closing)) (z : Opened) (w : ZoneAt a z) → a ≡ w.before ++ (block w.lemma w.inside w.closer ∷ w.rest)
zone_whole a z w = w.parts.whole ∙ cc (w.is_front, w.is_item, w.is_rest)

zone_set : (a : List (Item ℕ Closing)) (z : Opened) (w : ZoneAt a z) (v : Item ℕ Closing) → slice_set a z.item v ≡ w.before ++ (v ∷ w.rest)
zone_set a z w v = w.parts.set v ∙ cc (w.is_front, w.is_rest)

-- the table where an id comes in behind the last of the inside of a block
grow_table : {S : Type 0} {m n : IndexMap ℕ Place S} (i : ℕ) (f : List (Item ℕ Closing)) (l : ℕ) (b : List ℕ) (c : Closing)
    (t : List (Item ℕ Closing)) (o : End ℕ)
    → ((x y : List (ℕ × Place)) → look i (x ++ y) ≡ None → IsTable m (x ++ y) →
    IsTable n (x ++ ((i, record { item = length f; part = Inside (suc (length b)) }) ∷ y)))
    → look i (all_places (f ++ (block l b c ∷ t)) o) ≡ None → IsTable m (all_places (f ++ (block l b c ∷ t)) o)
    → IsTable n (all_places (f ++ (block l (b ++ (i ∷ [])) c ∷ t)) o)
grow_table {m = m} {n = n} i f l b c t o step h k =
    let e : all_places (f ++ (block l b c ∷ t)) o ≡ up_to f l b ++ from f c t o = places_around f l b c t o in
    let r = step (up_to f l b) (from f c t o) (subst (λ x. look i x ≡ None) e h) (subst (λ x. IsTable m x) e k) in
    subst (λ x. IsTable n x)
    (sym (places_around f l (b ++ (i ∷ [])) c t o ∙ (ap (λ x. x ++ from f c t o) (up_push f l i b) ∙
    append_assoc (up_to f l b) ((i, record { item = length f; part = Inside (suc (length b)) }) ∷ []) (from f c t o))))
    r

none_of : {V : Type 0} (x : Option V) → is_some x ≡ false → x ≡ None
none_of None h = refl
none_of (Some v) h = absurd (cc)

module _ {S : Type 0} {a : List (Item ℕ Closing)} {o : End ℕ} {z : Option Opened} {m : IndexMap ℕ Place S} (k : Kept a o z m)
    (d : Line) (is : line_of a o z ≡ d) where
  -- an id that isn't in the line has no place
  pub kept_absent : (i : ℕ) → has i (ids d) ≡ false → look i (all_places a o) ≡ None
  kept_absent i h = sym (k.table.same i) ∙ none_of (get nat_eq m i) (sym (kept_has k i) ∙ (ap (λ x. has i (ids x)) is ∙ h))

  pub kept_length : length (ids d) ≡ index_map_len m
  kept_length = ap (λ x. length (ids x)) (sym is) ∙ kept_size k

-- where no zone is open, the cursor stands behind all ids
pub front_length : {S : Type 0} {a : List (Item ℕ Closing)} {o : End ℕ} {m : IndexMap ℕ Place S} → Kept a o None m →
    length (front (line_of a o None)) ≡ index_map_len m
front_length {a = a} {o = o} k = ap length (sym (append-nil (front (line_of a o None)))) ∙ kept_size k

-- the item of the zone
pub zone_item : (a : List (Item ℕ Closing)) (z : Opened) (w : ZoneAt a z) (x : Item ℕ Closing) → x ≡ slice_index_or a z.item x →
    x ≡ block w.lemma w.inside w.closer
zone_item a z w x e = e ∙ (w.parts.at x ∙ w.is_item)

-- a zone's ids up to the cursor are fewer than all
pub zone_room : {S : Type 0} {a : List (Item ℕ Closing)} {o : End ℕ} {z : Opened} {m : IndexMap ℕ Place S} → Kept a o (Some z) m
    → (x : Item ℕ Closing) → x ≡ slice_index_or a z.item x
    → z.start + 1 + length (inside_of x) < index_map_len m
zone_room {a = a} {o = o} {z = z} {m = m} k x e =
    let w = zone_at a z k.zone in
    let xe : x ≡ block w.lemma w.inside w.closer = zone_item a z w x e in
    let ie : length (inside_of x) ≡ length w.inside = ap (λ y. length (inside_of y)) xe in
    let s : length (ids (line_of a o (Some z))) ≡ index_map_len m = kept_size k in
    let t : ids (line_of a o (Some z)) ≡ items_ids a ++ end_ids o = line_ids a o (Some z) k.zone in
    let q : items_ids a ≡ items_ids w.before ++ (item_ids (block w.lemma w.inside w.closer) ++ items_ids w.rest) =
    ap items_ids (zone_whole a z w) ∙ ids_join w.before (block w.lemma w.inside w.closer ∷ w.rest) in
    let u : length ((items_ids w.before ++ (item_ids (block w.lemma w.inside w.closer) ++ items_ids w.rest)) ++ end_ids o)
    ≡ index_map_len m = sym (ap (λ y. length (y ++ end_ids o)) q) ∙ (sym (ap length t) ∙ s) in
    room w.before w.lemma w.inside w.closer w.rest o (index_map_len m) z.start (length (inside_of x)) w.start ie u
  where
    room : (f : List (Item ℕ Closing)) (l : ℕ) (b : List ℕ) (c : Closing) (t : List (Item ℕ Closing)) (o : End ℕ)
        (n start k : ℕ) → start ≡ length (items_ids f) → k ≡ length b
        → length ((items_ids f ++ (item_ids (block l b c) ++ items_ids t)) ++ end_ids o) ≡ n → start + 1 + k < n
    room f l b c t o n start k e g u =
        omega (
          arith,
          length-append (items_ids f ++ (item_ids (block l b c) ++ items_ids t)) (end_ids o),
          length-append (items_ids f) (item_ids (block l b c) ++ items_ids t),
          length-append (item_ids (block l b c)) (items_ids t),
          length-append b (c.id ∷ []),
        )

pub kept_zone_grow : {S : Type 0} {a : List (Item ℕ Closing)} {o : End ℕ} {z : Opened} {m n : IndexMap ℕ Place S} →
    Kept a o (Some z) m → (i : ℕ) → look i (all_places a o) ≡ None
    → (x v : Item ℕ Closing) → x ≡ slice_index_or a z.item x → v ≡ with_inside (inside_of x ++ (i ∷ [])) x
    → ((p q : List (ℕ × Place)) → look i (p ++ q) ≡ None → IsTable m (p ++ q) →
    IsTable n (p ++ ((i, record { item = z.item; part = Inside (suc (length (inside_of x))) }) ∷ q)))
    → Kept (slice_set a z.item v) o (Some z) n
kept_zone_grow {a = a} {o = o} {z = z} {m = m} {n = n} k i h x v xe ve step =
    let w = zone_at a z k.zone in
    let xb : x ≡ block w.lemma w.inside w.closer = zone_item a z w x xe in
    let vb : v ≡ block w.lemma (w.inside ++ (i ∷ [])) w.closer = ve ∙ ap (λ y. with_inside (inside_of y ++ (i ∷ [])) y) xb in
    let ae : a ≡ w.before ++ (block w.lemma w.inside w.closer ∷ w.rest) = zone_whole a z w in
    let se : slice_set a z.item v ≡ w.before ++ (block w.lemma (w.inside ++ (i ∷ [])) w.closer ∷ w.rest) = zone_set a z w v ∙
    ap (λ y. w.before ++ (y ∷ w.rest)) vb in
    let ce : z.item ≡ length w.before = sym w.parts.count ∙ ap length w.is_front in
    let ie : length (inside_of x) ≡ length w.inside = ap (λ y. length (inside_of y)) xb in
    let stepped = subst (λ y. (p q : List (ℕ × Place)) → look i (p ++ q) ≡ None → IsTable m (p ++ q) →
    IsTable n (p ++ ((i, record { item = z.item; part = Inside (suc y) }) ∷ q))) ie step in
    let moved = subst (λ y. (p q : List (ℕ × Place)) → look i (p ++ q) ≡ None → IsTable m (p ++ q) →
    IsTable n (p ++ ((i, record { item = y; part = Inside (suc (length w.inside)) }) ∷ q))) ce stepped in
    record {
      table = subst (λ y. IsTable n (all_places y o)) (sym se) (grow_table i w.before w.lemma w.inside w.closer w.rest o moved
          (subst (λ y. look i (all_places y o) ≡ None) ae h) (subst (λ y. IsTable m (all_places y o)) ae k.table));
      zone = subst (λ y. ZoneFits y (Some z)) (sym se) (zone_again w.before w.lemma (w.inside ++ (i ∷ [])) w.closer w.rest z ce
          w.opaque w.start);
    }
  where
    front_taken : {A : Type 0} (f t : List A) → take (length f) (f ++ t) ≡ f
    front_taken [] t = refl
    front_taken (x ∷ f) t = ap (λ y. x ∷ y) (front_taken f t)

    front_dropped : {A : Type 0} (f t : List A) → drop (length f) (f ++ t) ≡ t
    front_dropped [] t = refl
    front_dropped (x ∷ f) t = front_dropped f t

    zone_again : (f : List (Item ℕ Closing)) (l : ℕ) (b : List ℕ) (c : Closing) (t : List (Item ℕ Closing)) (z : Opened) →
        z.item ≡ length f → c.opaque ≡ true → z.start ≡ length (items_ids f)
        → ZoneFits (f ++ (block l b c ∷ t)) (Some z)
    zone_again f l b c t z e q s = (
      subst (λ y. OpensFirst (drop y (f ++ (block l b c ∷ t)))) (sym e) (subst OpensFirst (sym (front_dropped f (block l b c ∷ t))) q),
      s ∙ ap (λ y. length (items_ids y)) (sym (front_taken f (block l b c ∷ t)) ∙ ap (λ y. take y (f ++ (block l b c ∷ t))) (sym e)),
    )

-- ---- the end

pub kept_end_grow : {S : Type 0} {a : List (Item ℕ Closing)} {o u : End ℕ} {m n : IndexMap ℕ Place S} → Kept a o None m →
    (i : ℕ) → look i (all_places a o) ≡ None → IsOpen o
    → u ≡ with_body (body_of o ++ (i ∷ [])) o
    → ((p q : List (ℕ × Place)) → look i (p ++ q) ≡ None → IsTable m (p ++ q) →
    IsTable n (p ++ ((i, record { item = length a; part = Inside (suc (length (body_of o))) }) ∷ q)))
    → Kept a u None n
kept_end_grow {o = closed} k i h w e step = absurd w
kept_end_grow {a = a} {o = proof l b} {u = u} {m = m} {n = n} k i h w e step =
    let r = step (up_to a l b) [] (subst (λ x. look i x ≡ None) (sym (append-nil (up_to a l b))) h)
    (subst (λ x. IsTable m x) (sym (append-nil (up_to a l b))) k.table) in
    record { table = subst (λ x. IsTable n (all_places a x)) (sym e) (subst (λ x. IsTable n x) (sym (up_push a l i b)) r); zone = tt }

-- pairs behind all others
pub behind_all : {S : Type 0} {m n : IndexMap ℕ Place S} (i : ℕ) (p : Place) (es : List (ℕ × Place))
    → ((x y : List (ℕ × Place)) → look i (x ++ y) ≡ None → IsTable m (x ++ y) → IsTable n (x ++ ((i, p) ∷ y)))
    → look i es ≡ None → IsTable m es → IsTable n (es ++ ((i, p) ∷ []))
behind_all {m = m} i p es step h k = step es [] (subst (λ x. look i x ≡ None) (sym (append-nil es)) h)
    (subst (λ x. IsTable m x) (sym (append-nil es)) k)

lone_places : (a : List (Item ℕ Closing)) (i : ℕ) → all_places (a ++ (lone i ∷ [])) closed ≡ all_places a closed
    ++ ((i, record { item = length a; part = First }) ∷ [])
lone_places a i = rw (items_join 0 (length a) a (lone i ∷ []) (omega arith)) (simp (append_assoc, append-nil))

pub kept_lone : {S : Type 0} {a : List (Item ℕ Closing)} {o : End ℕ} {m n : IndexMap ℕ Place S} → Kept a o None m → (i : ℕ) →
    look i (all_places a o) ≡ None → lemma_of o ≡ None
    → ((p q : List (ℕ × Place)) → look i (p ++ q) ≡ None → IsTable m (p ++ q) →
    IsTable n (p ++ ((i, record { item = length a; part = First }) ∷ q)))
    → Kept (a ++ (lone i ∷ [])) o None n
kept_lone {o = proof l b} k i h w step = absurd (cc)
kept_lone {a = a} {o = closed} {n = n} k i h w step = record {
  table = subst (λ x. IsTable n x) (sym (lone_places a i)) (behind_all i (record { item = length a; part = First })
      (all_places a closed) step h k.table);
  zone = tt;
}

-- the end, where no zone is open
pub zone_focus : (f r : List (Item ℕ Closing)) (o : End ℕ) → OpensFirst r → InZone (zone_from f r o).focus
zone_focus f [] o h = absurd h
zone_focus f (lone i ∷ t) o h = absurd h
zone_focus f (block l b c ∷ t) o h = tt

not_end : (f : Focus ℕ Closing) → InZone f → AtEnd f → ⊥
not_end (last o) h k = h
not_end (zone l b c t o) h k = k

not_proof : (f : Focus ℕ Closing) → InZone f → InProof f → ⊥
not_proof (last o) h k = h
not_proof (zone l b c t o) h k = k

pub at_end : (a : List (Item ℕ Closing)) (o : End ℕ) (z : Option Opened) → ZoneFits a z → AtEnd (line_of a o z).focus →
    (z ≡ None) × (o ≡ closed)
at_end a closed None h k = (refl, refl)
at_end a (proof l b) None h k = absurd k
at_end a o (Some z) h k = absurd (not_end (zone_from (take z.item a) (drop z.item a) o).focus
    (zone_focus (take z.item a) (drop z.item a) o h.0) k)

pub in_proof : (a : List (Item ℕ Closing)) (o : End ℕ) (z : Option Opened) → ZoneFits a z → InProof (line_of a o z).focus →
    (z ≡ None) × IsOpen o
in_proof a closed None h k = absurd k
in_proof a (proof l b) None h k = (refl, tt)
in_proof a o (Some z) h k = absurd (not_proof (zone_from (take z.item a) (drop z.item a) o).focus
    (zone_focus (take z.item a) (drop z.item a) o h.0) k)

pub kept_begin : {S : Type 0} {a : List (Item ℕ Closing)} {o : End ℕ} {z : Option Opened} {m n : IndexMap ℕ Place S} →
    Kept a o z m → (z ≡ None) × (o ≡ closed) → (i : ℕ) → look i (all_places a o) ≡ None
    → ((p q : List (ℕ × Place)) → look i (p ++ q) ≡ None → IsTable m (p ++ q) →
    IsTable n (p ++ ((i, record { item = length a; part = First }) ∷ q)))
    → Kept a (proof i []) z n
kept_begin {a = a} {o = o} {z = z} {m = m} {n = n} k w i h step = record {
  table = subst (λ x. IsTable n x) (ap (λ x. x ++ ((i, record { item = length a; part = First }) ∷ [])) (append-nil (items_places 0 a)))
      (behind_all i (record { item = length a; part = First }) (all_places a closed) step
      (subst (λ x. look i (all_places a x) ≡ None) w.1 h) (subst (λ x. IsTable m (all_places a x)) w.1 k.table));
  zone = k.zone;
}

closed_places : (a : List (Item ℕ Closing)) (l : ℕ) (b : List ℕ) (c : Closing)
    → all_places (a ++ (block l b c ∷ [])) closed ≡ all_places a (proof l b) ++ ((c.id, record { item = length a; part = Closer }) ∷ [])
closed_places a l b c = rw (items_join 0 (length a) a (block l b c ∷ []) (omega arith)) (simp (append_assoc, append-nil))

zone_more : (a b : List (Item ℕ Closing)) (z : Option Opened) → z ≡ None → ZoneFits b z
zone_more a b None e = tt
zone_more a b (Some z) e = absurd (cc)

pub kept_merge : {S : Type 0} {a : List (Item ℕ Closing)} {o : End ℕ} {z : Option Opened} {m n : IndexMap ℕ Place S} →
    Kept a o z m → (z ≡ None) × IsOpen o → (c : Ends) → look c.id (all_places a o) ≡ None
    → ((p q : List (ℕ × Place)) → look c.id (p ++ q) ≡ None → IsTable m (p ++ q) →
    IsTable n (p ++ ((c.id, record { item = length a; part = Closer }) ∷ q)))
    → Kept (a ++ (ended_of o c ∷ [])) closed z n
kept_merge {o = closed} k w c h step = absurd w.1
kept_merge {a = a} {o = proof l b} {z = z} {n = n} k w c h step = record {
  table = subst (λ x. IsTable n x) (sym (closed_places a l b (record { id = c.id; opaque = c.opaque })))
      (behind_all c.id (record { item = length a; part = Closer }) (all_places a (proof l b)) step h k.table);
  zone = zone_more a (a ++ (ended l b c ∷ [])) z w.0;
}

-- the line where a zone is open
pub zone_line : {S : Type 0} {a : List (Item ℕ Closing)} {o : End ℕ} {z : Opened} {m : IndexMap ℕ Place S} → Kept a o (Some z) m
    → (x : Item ℕ Closing) → x ≡ slice_index_or a z.item x
    → cursor (line_of a o (Some z)) ≡ last_or (first_of x) (inside_of x)
zone_line {a = a} {o = o} {z = z} k x e =
    let w = zone_at a z k.zone in
    let xe : x ≡ block w.lemma w.inside w.closer = zone_item a z w x e in
    let de : drop z.item a ≡ block w.lemma w.inside w.closer ∷ w.rest = w.parts.dropped ∙ cc (w.is_item, w.is_rest) in
    ap (λ y. cursor (zone_from (take z.item a) y o)) de ∙ (last_join 1 (items_ids (take z.item a)) (w.lemma ∷ w.inside) ∙
    sym (ap (λ y. last_or (first_of y) (inside_of y)) xe))

-- where no block is open, the items are those of the line
from_end : (f r : List (Item ℕ Closing)) (o : End ℕ) → OpensFirst r → AtEnd (zone_from f r o).focus → ⊥
from_end f [] o h e = h
from_end f (lone i ∷ t) o h e = h
from_end f (block l b c ∷ t) o h e = e

pub end_items : (a : List (Item ℕ Closing)) (o : End ℕ) (z : Option Opened) → ZoneFits a z → AtEnd (line_of a o z).focus
    → (line_of a o z).items ≡ a
end_items a o None h e = refl
end_items a o (Some z) h e = absurd (from_end (take z.item a) (drop z.item a) o h.0 e)

-- the position of what comes in, where no zone is open
pub front_is : {S : Type 0} {a : List (Item ℕ Closing)} {o : End ℕ} {z : Option Opened} {m : IndexMap ℕ Place S} →
    Kept a o z m → z ≡ None → (d : Line) → line_of a o z ≡ d → index_map_len m ≡ length (front d)
front_is {a = a} {o = o} {z = None} k e d is = sym (front_length k) ∙ ap (λ x. length (front x)) is
front_is {z = Some z} k e d is = absurd (cc)

pub open_of : (o : End ℕ) → is_some (lemma_of o) ≡ true → IsOpen o
open_of closed h = absurd (cc)
open_of (proof l b) h = tt

pub none_some : {V : Type 0} (x : Option V) → is_some x ≡ false → x ≡ None
none_some x h = none_of x h
