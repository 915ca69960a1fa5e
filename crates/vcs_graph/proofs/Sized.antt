-- What each change keeps of the sizes.
use Rattle.std.proofs.Common.{
  ◌≡◌,
  ℕ,
  ◌+◌,
  ◌<◌,
  ◌≤◌,
  List,
  [],
  ◌∷◌,
  ◌++◌,
  length,
  take,
  get_or,
  slice_set,
  slice_index_or,
  Option,
  Some,
  sym,
  ap,
  subst,
  ◌∙◌,
  arith,
  length-append,
  length-take-le,
}
use Rattle.indexmap.specs.IndexMap.{IndexMap, index_map_len}
use Rattle.line_theory.specs.Shapes.{Item, End, closed, proof}
use Rattle.line_theory.specs.Lines.{Closing, Line, item_ids, items_ids}
use Rattle.vcs_graph.specs.declared.place.Place.{Place}
use Rattle.vcs_graph.specs.declared.segment.Closer.{Closer as Ends}
use Rattle.vcs_graph.specs.declared.graph.Opened.{Opened}
use Rattle.vcs_graph.specs.Parts.{inside_of, with_inside, IsBlock, IsOpen, body_of, ended_of}
use Rattle.vcs_graph.specs.GraphView.{Kept, IsStart, sizes_of}
use Rattle.vcs_graph.specs.Sums.{sum_to}
use Rattle.vcs_graph.proofs.Keeps.{zone_at, zone_item}
use Rattle.vcs_graph.proofs.Listed.{kept_total}
use Rattle.vcs_graph.proofs.Zones.{Opening, opening_item, opening_block, opening_below}
use Rattle.vcs_graph.proofs.SizesOf.{
  sizes_length,
  sizes_sum,
  sizes_total,
  sizes_join,
  sizes_set,
  sizes_at,
  block_size,
  inside_size,
  sum_set,
}

-- all items have no more ids than the table
pub items_total : {S : Type 0} {a : List (Item ℕ Closing)} {o : End ℕ} {z : Option Opened} {m : IndexMap ℕ Place S} {s : List ℕ}
    → Kept a o z m → s ≡ sizes_of a → sum_to (length s) s ≤ index_map_len m
items_total {a = a} k e = omega (arith, ap (λ y. sum_to (length y) y) e, sizes_total a, kept_total k)

-- with the block that is open at the end, one more at most
pub open_total : {S : Type 0} {a : List (Item ℕ Closing)} {o : End ℕ} {z : Option Opened} {m : IndexMap ℕ Place S} {s : List ℕ}
    → Kept a o z m → s ≡ sizes_of a → IsOpen o → sum_to (length s) s + (length (body_of o) + 2) ≤ index_map_len m + 1
open_total {o = closed} k e h = absurd h
open_total {a = a} {o = proof l b} k e h = omega (arith, ap (λ y. sum_to (length y) y) e, sizes_total a, kept_total k)

pub merged_sizes : (a : List (Item ℕ Closing)) (o : End ℕ) (c : Ends) (s : List ℕ) (n : ℕ) → IsOpen o → s ≡ sizes_of a
    → n ≡ length (body_of o) + 2 → s ++ (n ∷ []) ≡ sizes_of (a ++ (ended_of o c ∷ []))
merged_sizes a closed c s n h e q = absurd h
merged_sizes a (proof l b) c s n h e q =
    let f : n ≡ length (item_ids (ended_of (proof l b) c)) = omega (arith, q, length-append b (c.id ∷ [])) in
    ap (λ y. y ++ (n ∷ [])) e ∙ (ap (λ y. sizes_of a ++ (y ∷ [])) f ∙ sym (sizes_join a (ended_of (proof l b) c ∷ [])))

-- ---- an id that comes in, in the zone

zone_below : {S : Type 0} {a : List (Item ℕ Closing)} {o : End ℕ} {z : Opened} {m : IndexMap ℕ Place S} → Kept a o (Some z) m
    → z.item < length a
zone_below {a = a} {z = z} k =
    let w = zone_at a z k.zone in
    let e : length a ≡ length w.parts.front + length (w.parts.item ∷ w.parts.rest) =
    ap length w.parts.whole ∙ length-append w.parts.front (w.parts.item ∷ w.parts.rest) in
    omega (arith, e, w.parts.count)

module _ {S : Type 0} {a : List (Item ℕ Closing)} {o : End ℕ} {z : Opened} {m : IndexMap ℕ Place S} {s : List ℕ}
    (k : Kept a o (Some z) m) (e : s ≡ sizes_of a) where
  pub zone_within : z.item < length s
  zone_within = omega (arith, ap length e, sizes_length a, zone_below k)

  zone_block : (x : Item ℕ Closing) → x ≡ slice_index_or a z.item x → IsBlock x
  zone_block x xe = let w = zone_at a z k.zone in subst IsBlock (sym (zone_item a z w x xe)) tt

  pub zone_small : (x : Item ℕ Closing) → x ≡ slice_index_or a z.item x → (n : ℕ) → n ≡ length (inside_of x) + 3
      → sum_to (length s) (slice_set s z.item n) ≤ index_map_len m + 1
  zone_small x xe n q =
      let g : get_or s z.item 0 ≡ length (item_ids x) = ap (λ y. get_or y z.item 0) e ∙ sizes_at a z.item x (zone_below k) xe in
      omega (arith, q, g, block_size x (zone_block x xe), sum_set s z.item n zone_within, items_total k e)

  pub zone_sizes : (i : ℕ) (x v : Item ℕ Closing) → x ≡ slice_index_or a z.item x → v ≡ with_inside (inside_of x ++ (i ∷ [])) x
      → (y : Item ℕ Closing) → y ≡ slice_index_or a z.item y → (n : ℕ) → n ≡ length (inside_of y) + 3
      → slice_set s z.item n ≡ sizes_of (slice_set a z.item v)
  zone_sizes i x v xe ve y ye n q =
      let w = zone_at a z k.zone in
      let u : length (inside_of y) ≡ length (inside_of x) = ap (λ t. length (inside_of t)) (zone_item a z w y ye ∙
      sym (zone_item a z w x xe)) in
      let f : length (item_ids v) ≡ length (inside_of x ++ (i ∷ [])) + 2 = ap (λ t. length (item_ids t)) ve
      ∙ inside_size (inside_of x ++ (i ∷ [])) x (zone_block x xe) in
      let g : n ≡ length (item_ids v) = omega (arith, q, u, f, length-append (inside_of x) (i ∷ [])) in
      ap (λ t. slice_set t z.item n) e ∙ (ap (slice_set (sizes_of a) z.item) g ∙ sym (sizes_set a z.item v))

-- ---- a zone that is opened

-- the ids before the block
pub start_sum : (z : Option Opened) (a : List (Item ℕ Closing)) (s : List ℕ) (n r : ℕ) → s ≡ sizes_of a → IsStart z (sum_to n s) r
    → IsStart z (length (items_ids (take n a))) r
start_sum z a s n r e h = subst (λ y. IsStart z y r) (ap (sum_to n) e ∙ sizes_sum n a) h

module _ {a : List (Item ℕ Closing)} {o : End ℕ} {z : Option Opened} {n kept : ℕ} {d : Line} {s : List ℕ}
    (w : Opening a o z n kept d) (e : s ≡ sizes_of a) where
  pub opened_within : n < length s
  opened_within = omega (arith, ap length e, sizes_length a, opening_below w)

  module _ (x : Item ℕ Closing) (xe : x ≡ slice_index_or a n x) (q : ℕ) (qe : q ≡ kept + 2) where
    pub opened_small : {S : Type 0} {m : IndexMap ℕ Place S} → Kept a o z m → sum_to (length s) (slice_set s n q) ≤ index_map_len m
    opened_small k =
        let g : get_or s n 0 ≡ length (item_ids x) = ap (λ y. get_or y n 0) e ∙ sizes_at a n x (opening_below w) xe in
        let i : length (inside_of x) ≡ length w.inside = ap (λ y. length (inside_of y)) (opening_item w x xe) in
        omega (arith, qe, g, i, w.fits, block_size x (opening_block w x xe), sum_set s n q opened_within, items_total k e)

    pub opened_sizes : (v : Item ℕ Closing) → v ≡ with_inside (take kept (inside_of x)) x → slice_set s n q ≡ sizes_of (slice_set a n v)
    opened_sizes v ve =
        let i : length (inside_of x) ≡ length w.inside = ap (λ y. length (inside_of y)) (opening_item w x xe) in
        let f : length (item_ids v) ≡ length (take kept (inside_of x)) + 2 = ap (λ y. length (item_ids y)) ve
        ∙ inside_size (take kept (inside_of x)) x (opening_block w x xe) in
        let g : q ≡ length (item_ids v) = omega (arith, qe, f, length-take-le kept (inside_of x) (omega (arith, i, w.fits))) in
        ap (λ y. slice_set y n q) e ∙ (ap (slice_set (sizes_of a) n) g ∙ sym (sizes_set a n v))
