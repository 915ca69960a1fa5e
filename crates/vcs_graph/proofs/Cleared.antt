-- An id that goes, with what goes with it: what stays, and what is listed.
use Rattle.std.proofs.Common.{◌≡◌, ◌⊎◌, inl, inr, ℕ, zero, suc, ◌+◌, ◌-◌, ◌<◌, ◌≤◌, List, [], ◌∷◌, ◌++◌, length, take, drop, Option, Some, None, refl, sym, ap, subst, ◌∙◌, arith, append_assoc, append-nil, length-append}
use Rattle.std.specs.Prelude.{is_some}
use Rattle.indexmap.specs.IndexMap.{IndexMap}
use Rattle.line_theory.specs.Lists.{Distinct}
use Rattle.line_theory.specs.Shapes.{Item, lone, block, End, closed, proof, Focus, last, zone}
use Rattle.line_theory.specs.Lines.{Closing, Line, item_ids, items_ids, end_ids, ids}
use Rattle.line_theory.specs.Edits.{Seat, among, behind, nowhere, seat, lost}
use Rattle.line_theory.proofs.Lists.{cut_gone}
use Rattle.line_theory.proofs.Folded.{items_join as ids_join}
use Rattle.vcs_graph.specs.declared.place.Place.{Place}
use Rattle.vcs_graph.specs.declared.place.Part.{Part}
use Rattle.vcs_graph.specs.declared.place.Part.TheVariants.{First, Inside, Closer}
use Rattle.vcs_graph.specs.declared.graph.Opened.{Opened}
use Rattle.vcs_graph.specs.Table.{look, Apart, all_places}
use Rattle.vcs_graph.specs.GraphView.{line_of, Kept}
use Rattle.vcs_graph.specs.Parts.{part_front, end_front, part_rest, end_rest, rest_at, left_end, end_left}
use Rattle.vcs_graph.specs.Removals.{Stands, cleared_at, cleared, NarrowsIn, Narrows, narrowed_at, narrowed}
use Rattle.vcs_graph.proofs.Places.{keys_of, keys_has}
use Rattle.vcs_graph.proofs.Viewed.{kept_ids, line_ids, take_drop}
use Rattle.vcs_graph.proofs.Located.{spot_of, IsPart, IsEndPart, Spotted, found_item, found_end}
use Rattle.vcs_graph.proofs.Keeps.{zone_whole}
use Rattle.vcs_graph.proofs.Zones.{Opening}
use Rattle.vcs_graph.proofs.Lasts.{pred_is}
use Rattle.vcs_graph.proofs.Seated.{
  open_seat,
  seat_item,
  seat_end,
  InZone,
  ahead,
  within,
  beyond,
  zone_of,
  zone_number,
  zone_line_is,
  seat_zone,
  spot_number,
  dropped_at_number,
  dropped_all,
  lt_or,
}

-- ---- no id is twice

apart_distinct : {V : Type 0} (es : List (ℕ × V)) → Apart es → Distinct (keys_of es)
apart_distinct [] h = tt
apart_distinct (e ∷ es) h = (keys_has e.0 es ∙ ap is_some h.0, apart_distinct es h.1)

pub kept_distinct : {S : Type 0} {a : List (Item ℕ Closing)} {o : End ℕ} {z : Option Opened} {m : IndexMap ℕ Place S} →
    Kept a o z m → Distinct (ids (line_of a o z))
kept_distinct {a = a} {o = o} k = subst Distinct (sym (kept_ids k)) (apart_distinct (all_places a o) k.table.apart)

-- what goes in one piece is what is lost
pub cut_lost : (d e : Line) (f g b : List ℕ) → ids d ≡ f ++ (g ++ b) → ids e ≡ f ++ b → Distinct (ids d) → lost d e ≡ g
cut_lost d e f g b p q h = cut_gone (ids d) (ids e) (record { front = f; gone = g; back = b; was = p; is = q }) h

-- ---- a part of an item, and all behind it

part_split : (i : ℕ) (q : Part) (x : Item ℕ Closing) → IsPart i q x → item_ids x ≡ part_front q x ++ part_rest q x
part_split i First (lone e) h = refl
part_split i First (block l b c) h = refl
part_split i (Inside zero) (block l b c) h = absurd h
part_split i (Inside (suc j)) (block l b c) h = ap (λ z. l ∷ (z ++ (c.id ∷ []))) (sym (take_drop j b)) ∙
    ap (λ z. l ∷ z) (append_assoc (take j b) (drop j b) (c.id ∷ []))
part_split i Closer (block l b c) h = refl
part_split i (Inside j) (lone e) h = absurd h
part_split i Closer (lone e) h = absurd h

left_ids : (i : ℕ) (q : Part) (x : Item ℕ Closing) → IsPart i q x → end_ids (left_end q x) ≡ part_front q x
left_ids i First (lone e) h = refl
left_ids i First (block l b c) h = refl
left_ids i (Inside zero) (block l b c) h = absurd h
left_ids i (Inside (suc j)) (block l b c) h = refl
left_ids i Closer (block l b c) h = refl
left_ids i (Inside j) (lone e) h = absurd h
left_ids i Closer (lone e) h = absurd h

end_split : (i : ℕ) (q : Part) (o : End ℕ) → IsEndPart i q o → end_ids o ≡ end_front q o ++ end_rest q o
end_split i First (proof l b) h = refl
end_split i (Inside zero) (proof l b) h = absurd h
end_split i (Inside (suc j)) (proof l b) h = ap (λ z. l ∷ z) (sym (take_drop j b))
end_split i Closer (proof l b) h = absurd h
end_split i First closed h = absurd h
end_split i (Inside j) closed h = absurd h
end_split i Closer closed h = absurd h

end_left_ids : (i : ℕ) (q : Part) (o : End ℕ) → IsEndPart i q o → end_ids (end_left q o) ≡ end_front q o
end_left_ids i First (proof l b) h = refl
end_left_ids i (Inside zero) (proof l b) h = absurd h
end_left_ids i (Inside (suc j)) (proof l b) h = refl
end_left_ids i Closer (proof l b) h = absurd h
end_left_ids i First closed h = absurd h
end_left_ids i (Inside j) closed h = absurd h
end_left_ids i Closer closed h = absurd h

-- ---- the id and all behind it

cleared_spot : (i : ℕ) (q : Part) (f : List (Item ℕ Closing)) (x : Item ℕ Closing) (t : List (Item ℕ Closing)) (d : Line) →
    IsPart i q x → cleared_at (among (spot_of q f x t)) d ≡ record { items = f; focus = last (left_end q x) }
cleared_spot i First f (lone e) t d h = refl
cleared_spot i First f (block l b c) t d h = refl
cleared_spot i (Inside zero) f (block l b c) t d h = absurd h
cleared_spot i (Inside (suc j)) f (block l b c) t d h = refl
cleared_spot i Closer f (block l b c) t d h = refl
cleared_spot i (Inside j) f (lone e) t d h = absurd h
cleared_spot i Closer f (lone e) t d h = absurd h

cleared_open : (i : ℕ) (q : Part) (l : ℕ) (b : List ℕ) (c : Closing) (d : Line) → IsEndPart i q (proof l b) →
    cleared_at (open_seat q (proof l b)) d ≡ record { items = d.items; focus = last (left_end q (block l b c)) }
cleared_open i First l b c d h = refl
cleared_open i (Inside zero) l b c d h = absurd h
cleared_open i (Inside (suc j)) l b c d h = refl
cleared_open i Closer l b c d h = absurd h

cleared_end : (i : ℕ) (q : Part) (o : End ℕ) (d : Line) → IsEndPart i q o → cleared_at (open_seat q o) d ≡ record {
  items =
      d.items;
  focus = last (end_left q o);
}
cleared_end i First (proof l b) d h = refl
cleared_end i (Inside zero) (proof l b) d h = absurd h
cleared_end i (Inside (suc j)) (proof l b) d h = refl
cleared_end i Closer (proof l b) d h = absurd h
cleared_end i First closed d h = absurd h
cleared_end i (Inside j) closed d h = absurd h
cleared_end i Closer closed d h = absurd h

open_part : (i : ℕ) (q : Part) (l : ℕ) (b : List ℕ) (c : Closing) → IsEndPart i q (proof l b) → IsPart i q (block l b c)
open_part i First l b c h = h
open_part i (Inside zero) l b c h = absurd h
open_part i (Inside (suc j)) l b c h = (h.1.0, h.1.1.0)
open_part i Closer l b c h = absurd h

-- an id among the items: what stands around it, the line that is left, and the ids before and after
pub record Clearing (a : List (Item ℕ Closing)) (o : End ℕ) (p : Place) (d e : Line) : Type 0 where
  pub front : List (Item ℕ Closing)
  pub item : Item ℕ Closing
  pub rest : List (Item ℕ Closing)
  pub whole : a ≡ front ++ (item ∷ rest)
  pub count : length front ≡ p.item
  pub new : e ≡ record { items = front; focus = last (left_end p.part item) }
  pub goes : rest_at p.part (drop p.item a) o ≡ part_rest p.part item ++ (items_ids rest ++ end_ids o)
  pub was : ids d ≡ (items_ids front ++ part_front p.part item) ++ ((part_rest p.part item ++ (items_ids rest ++ end_ids o)) ++ [])
  pub is : ids e ≡ (items_ids front ++ part_front p.part item) ++ []

clears : {S : Type 0} {a : List (Item ℕ Closing)} {o : End ℕ} {z : Option Opened} {m : IndexMap ℕ Place S} → Kept a o z m →
    (i : ℕ) (p : Place) (e : Line) (f : List (Item ℕ Closing)) (x : Item ℕ Closing) (t : List (Item ℕ Closing))
    → a ≡ f ++ (x ∷ t) → length f ≡ p.item → IsPart i p.part x → e ≡ record { items = f; focus = last (left_end p.part x) } →
    Clearing a o p (line_of a o z) e
clears {a = a} {o = o} {z = z} k i p e f x t w c h n = record {
  front = f;
  item = x;
  rest = t;
  whole = w;
  count = c;
  new = n;
  goes = ap (λ y. rest_at p.part y o) (dropped_at_number f x t a p.item w c);
  was = line_ids a o z k.zone ∙ (ap (λ y. items_ids y ++ end_ids o) w ∙ (ap (λ y. y ++ end_ids o) (ids_join f (x ∷ t)) ∙
      (ap (λ y. (items_ids f ++ (y ++ items_ids t)) ++ end_ids o) (part_split i p.part x h)
      ∙ around (items_ids f) (part_front p.part x) (part_rest p.part x) (items_ids t) (end_ids o))));
  is = ap ids n ∙ ap (λ y. (items_ids f ++ y) ++ []) (left_ids i p.part x h);
}
  where
    around : (f b g t o : List ℕ) → (f ++ ((b ++ g) ++ t)) ++ o ≡ (f ++ b) ++ ((g ++ (t ++ o)) ++ [])
    around f b g t o = simp (append_assoc, append-nil)

module _ {S : Type 0} {a : List (Item ℕ Closing)} {o : End ℕ} {m : IndexMap ℕ Place S} (i : ℕ) (p : Place)
    (h : look i (all_places a o) ≡ Some p) where
  pub clearing : (z : Option Opened) → Kept a o z m → Stands (seat i (line_of a o z)) → p.item < length a →
      Clearing a o p (line_of a o z) (cleared i (line_of a o z))
  clearing None k st lt =
      let s = found_item i p a o h lt in
      clears k i p (cleared i (line_of a o None)) s.front s.item s.rest s.whole (omega (arith, s.count)) s.part
      (ap (λ y. cleared_at y (line_of a o None)) (seat_item i p a o s) ∙ cleared_spot i p.part s.front s.item s.rest
      (line_of a o None) s.part)
  clearing (Some z) k st lt = go (seat_zone k i p h)
    where
      go : InZone i p z.item (zone_of k).lemma (zone_of k).inside (zone_of k).closer (zone_of k).before (line_of a o (Some z)) →
          Clearing a o p (line_of a o (Some z)) (cleared i (line_of a o (Some z)))
      go (ahead s e) =
          clears k i p (cleared i (line_of a o (Some z))) s.front s.item
          (s.rest ++ (block (zone_of k).lemma (zone_of k).inside (zone_of k).closer ∷ (zone_of k).rest))
          (zone_whole a z (zone_of k) ∙
          (ap (λ y. y ++ (block (zone_of k).lemma (zone_of k).inside (zone_of k).closer ∷ (zone_of k).rest)) s.whole ∙
          append_assoc s.front (s.item ∷ s.rest) (block (zone_of k).lemma (zone_of k).inside (zone_of k).closer ∷ (zone_of k).rest)))
          (omega (arith, s.count)) s.part
          (ap (λ y. cleared_at y (line_of a o (Some z))) e ∙ cleared_spot i p.part s.front s.item s.rest (line_of a o (Some z)) s.part)
      go (within e s q) =
          clears k i p (cleared i (line_of a o (Some z))) (zone_of k).before (block (zone_of k).lemma (zone_of k).inside
          (zone_of k).closer) (zone_of k).rest (zone_whole a z (zone_of k)) (zone_number k ∙ sym e)
          (open_part i p.part (zone_of k).lemma (zone_of k).inside (zone_of k).closer s)
          (ap (λ y. cleared_at y (line_of a o (Some z))) q ∙
          (cleared_open i p.part (zone_of k).lemma (zone_of k).inside (zone_of k).closer (line_of a o (Some z)) s
          ∙ ap (λ (y : Line). record {
            items = y.items;
            focus =
                last (left_end p.part (block (zone_of k).lemma (zone_of k).inside (zone_of k).closer));
          }) (zone_line_is k)))
      go (beyond e s q) = absurd (subst Stands q st)

  -- an id of the block that is open at the end
  pub clearing_end : (z : Option Opened) → Kept a o z m → Stands (seat i (line_of a o z)) → length a ≤ p.item
      → IsEndPart i p.part o × (cleared i (line_of a o z) ≡ record { items = a; focus = last (end_left p.part o) })
  clearing_end None k st le =
      let s = found_end i p a o h le in
      (s.1, ap (λ y. cleared_at y (line_of a o None)) (seat_end i p a o s.0 s.1) ∙ cleared_end i p.part o (line_of a o None) s.1)
  clearing_end (Some z) k st le = go (seat_zone k i p h)
    where
      many : z.item < length a
      many = omega (
        arith,
        zone_number k,
        ap length (zone_whole a z (zone_of k)) ∙ length-append (zone_of k).before
            (block (zone_of k).lemma (zone_of k).inside (zone_of k).closer ∷ (zone_of k).rest),
      )

      go : InZone i p z.item (zone_of k).lemma (zone_of k).inside (zone_of k).closer (zone_of k).before (line_of a o (Some z))
          → IsEndPart i p.part o × (cleared i (line_of a o (Some z)) ≡ record { items = a; focus = last (end_left p.part o) })
      go (ahead s e) = absurd (omega (arith, spot_number k i p h s, many, le))
      go (within e s q) = absurd (omega (arith, e, many, le))
      go (beyond e s q) = absurd (subst Stands q st)

  pub clearing_end_ids : (z : Option Opened) (k : Kept a o z m) (st : Stands (seat i (line_of a o z))) (le : length a ≤ p.item)
      → (rest_at p.part (drop p.item a) o ≡ end_rest p.part o) ×
      ((ids (line_of a o z) ≡ (items_ids a ++ end_front p.part o) ++ (end_rest p.part o ++ [])) ×
      (ids (cleared i (line_of a o z)) ≡ (items_ids a ++ end_front p.part o) ++ []))
  clearing_end_ids z k st le =
      let w = clearing_end z k st le in (
        ap (λ y. rest_at p.part y o) (dropped_all a p.item le),
        (
          line_ids a o z k.zone ∙ (ap (λ y. items_ids a ++ y) (end_split i p.part o w.0) ∙
              around (items_ids a) (end_front p.part o) (end_rest p.part o)),
          ap ids w.1 ∙ ap (λ y. (items_ids a ++ y) ++ []) (end_left_ids i p.part o w.0),
        ),
      )
    where
      around : (f b g : List ℕ) → f ++ (b ++ g) ≡ (f ++ b) ++ (g ++ [])
      around f b g = simp (append_assoc, append-nil)

-- ---- the id and what stands between it and the closer

record Narrowing (i : ℕ) (p : Place) (a : List (Item ℕ Closing)) (o : End ℕ) (z : Option Opened) : Type 0 where
  number : ℕ
  part : p.part ≡ Inside (suc number)
  opening : Opening a o z p.item number (narrowed i (line_of a o z))

module _ {S : Type 0} {a : List (Item ℕ Closing)} {o : End ℕ} {m : IndexMap ℕ Place S} (i : ℕ) (p : Place)
    (h : look i (all_places a o) ≡ Some p) where
  narrowing_none : Kept a o None m → Narrows i (line_of a o None) → Narrowing i p a o None
  narrowing_none k nr = by (lt_or p.item (length a))
    where
      block_case : (s : Spotted i 0 p a) (x : Item ℕ Closing) (q : Part) → p.part ≡ q → s.item ≡ x → IsPart i q x →
          NarrowsIn (among (spot_of q s.front x s.rest)) (last o) → Narrowing i p a o None
      block_case s (lone y) First u v w g = absurd g
      block_case s (lone y) (Inside j) u v w g = absurd w
      block_case s (lone y) Closer u v w g = absurd w
      block_case s (block l b c) First u v w g = absurd g
      block_case s (block l b c) Closer u v w g = absurd g
      block_case s (block l b c) (Inside zero) u v w g = absurd w
      block_case s (block l b c) (Inside (suc j)) u v w g = record {
        number = j;
        part = u;
        opening = record {
          before = s.front;
          lemma = l;
          inside = b;
          closer = c;
          rest = s.rest;
          whole = s.whole ∙ ap (λ y. s.front ++ (y ∷ s.rest)) v;
          count = omega (arith, s.count);
          opaque = g;
          fits = omega (arith, w.0);
          new = ap (λ y. narrowed_at y (line_of a o None) (last o)) (seat_item i p a o s ∙
              (ap (λ y. among (spot_of y s.front s.item s.rest)) u ∙ ap (λ y. among (spot_of (Inside (suc j)) s.front y s.rest)) v));
          start = λ r e. e;
        };
      }

      no_end : (q : Part) (u : End ℕ) → NarrowsIn (open_seat q u) (last o) → ⊥
      no_end First (proof l b) g = g
      no_end (Inside zero) (proof l b) g = g
      no_end (Inside (suc j)) (proof l b) g = g
      no_end Closer (proof l b) g = g
      no_end First closed g = g
      no_end (Inside j) closed g = g
      no_end Closer closed g = g

      by : (p.item < length a) ⊎ (length a ≤ p.item) → Narrowing i p a o None
      by (inl q) = let s = found_item i p a o h q in block_case s s.item p.part refl refl s.part
          (subst (λ y. NarrowsIn y (last o)) (seat_item i p a o s) nr)
      by (inr q) = let s = found_end i p a o h q in
          absurd (no_end p.part o (subst (λ y. NarrowsIn y (last o)) (seat_end i p a o s.0 s.1) nr))

  narrowing_some : (z : Opened) → Kept a o (Some z) m → Narrows i (line_of a o (Some z)) → Narrowing i p a o (Some z)
  narrowing_some z k nr = go (seat_zone k i p h)
    where
      at_seat : (s : Seat) → seat i (line_of a o (Some z)) ≡ s →
          NarrowsIn s (zone (zone_of k).lemma (zone_of k).inside (zone_of k).closer (zone_of k).rest o)
      at_seat s e = subst (λ (y : Line). NarrowsIn s y.focus) (zone_line_is k) (subst (λ y. NarrowsIn y (line_of a o (Some z)).focus) e nr)

      not_among : (q : Part) (f : List (Item ℕ Closing)) (x : Item ℕ Closing) (t : List (Item ℕ Closing)) (l : ℕ) (b : List ℕ)
          (c : Closing) (u : List (Item ℕ Closing)) → IsPart i q x → NarrowsIn (among (spot_of q f x t)) (zone l b c u o) → ⊥
      not_among First f (lone y) t l b c u w g = g
      not_among First f (block y d e) t l b c u w g = g
      not_among (Inside zero) f (block y d e) t l b c u w g = w
      not_among (Inside (suc j)) f (block y d e) t l b c u w g = g
      not_among Closer f (block y d e) t l b c u w g = g
      not_among (Inside j) f (lone y) t l b c u w g = w
      not_among Closer f (lone y) t l b c u w g = w

      new_is : (j : ℕ) → seat i (line_of a o (Some z)) ≡ open_seat (Inside (suc j)) (proof (zone_of k).lemma (zone_of k).inside)
          → narrowed i (line_of a o (Some z)) ≡ record {
            items = (zone_of k).before;
            focus =
                zone (zone_of k).lemma (take j (zone_of k).inside) (zone_of k).closer (zone_of k).rest o;
          }
      new_is j q = ap (λ y. narrowed_at y (line_of a o (Some z)) (line_of a o (Some z)).focus) q ∙
          ap (λ (y : Line). narrowed_at (open_seat (Inside (suc j)) (proof (zone_of k).lemma (zone_of k).inside)) y y.focus)
          (zone_line_is k)

      open_case : (q : Part) → p.part ≡ q → p.item ≡ z.item → IsEndPart i q (proof (zone_of k).lemma (zone_of k).inside) →
          seat i (line_of a o (Some z)) ≡ open_seat q (proof (zone_of k).lemma (zone_of k).inside) → Narrowing i p a o (Some z)
      open_case First u e s q = absurd (at_seat (open_seat First (proof (zone_of k).lemma (zone_of k).inside)) q)
      open_case Closer u e s q = absurd s
      open_case (Inside zero) u e s q = absurd s
      open_case (Inside (suc j)) u e s q = record {
        number = j;
        part = u;
        opening = record {
          before = (zone_of k).before;
          lemma = (zone_of k).lemma;
          inside = (zone_of k).inside;
          closer = (zone_of k).closer;
          rest = (zone_of k).rest;
          whole = zone_whole a z (zone_of k);
          count = zone_number k ∙ sym e;
          opaque = (zone_of k).opaque;
          fits = omega (arith, s.1.0);
          new = new_is j q;
          start = λ r y. y ∙ ((zone_of k).start ∙ ap (λ v. length (items_ids v))
              (sym (ap (λ v. take v a) e ∙ (zone_of k).parts.taken ∙ (zone_of k).is_front)));
        };
      }

      go : InZone i p z.item (zone_of k).lemma (zone_of k).inside (zone_of k).closer (zone_of k).before (line_of a o (Some z)) →
          Narrowing i p a o (Some z)
      go (ahead s e) = absurd (not_among p.part s.front s.item s.rest (zone_of k).lemma (zone_of k).inside (zone_of k).closer
          (zone_of k).rest s.part (at_seat (among (spot_of p.part s.front s.item s.rest)) e))
      go (within e s q) = open_case p.part refl e s q
      go (beyond e s q) = absurd (at_seat (behind (zone_of k).closer.id) q)

  narrows : (z : Option Opened) → Kept a o z m → Narrows i (line_of a o z) → Narrowing i p a o z
  narrows None k nr = narrowing_none k nr
  narrows (Some z) k nr = narrowing_some z k nr

  -- the number is one of the inside
  pub narrowing_part : (z : Option Opened) → Kept a o z m → Narrows i (line_of a o z) → ((j : ℕ) → p.part ≡ Inside j → ⊥) → ⊥
  narrowing_part z k nr f = let w = narrows z k nr in f (suc w.number) w.part

  pub narrowing : (z : Option Opened) → Kept a o z m → Narrows i (line_of a o z) → (j kept : ℕ) → p.part ≡ Inside j →
      kept ≡ j - 1 → Opening a o z p.item kept (narrowed i (line_of a o z))
  narrowing z k nr j kept e g =
      let w = narrows z k nr in
      let q : Inside (suc w.number) ≡ Inside j = sym w.part ∙ e in
      let r : suc w.number ≡ j = cc in
      subst (λ y. Opening a o z p.item y (narrowed i (line_of a o z)))
      (sym (g ∙ (ap (λ y. y - 1) (sym r) ∙ pred_is (suc w.number)))) w.opening

-- ---- counts

pub cut_room : (d e : Line) (f g b : List ℕ) → ids d ≡ f ++ (g ++ b) → ids e ≡ f ++ b → length (ids d) ≡ length g + length (ids e)
cut_room d e f g b p q = ap length p ∙ (count f g b ∙ ap (λ y. length g + length y) (sym q))
  where
    count : (f g b : List ℕ) → length (f ++ (g ++ b)) ≡ length g + length (f ++ b)
    count f g b = omega (arith, length-append f (g ++ b), length-append g b, length-append f b)

pub nothing_narrows : (f : Focus ℕ Closing) → NarrowsIn nowhere f → ⊥
nothing_narrows (last o) h = h
nothing_narrows (zone l b c t o) h = h

-- the inside of the block is among all ids
pub inside_room : {S : Type 0} {a : List (Item ℕ Closing)} {o : End ℕ} {n kept : ℕ} {d : Line} {z : Option Opened}
    {m : IndexMap ℕ Place S} → Kept a o z m → (w : Opening a o z n kept d) → length w.inside ≤ length (ids (line_of a o z))
inside_room {a = a} {o = o} {z = z} k w =
    let t : length (ids (line_of a o z))
    ≡ length ((items_ids w.before ++ (item_ids (block w.lemma w.inside w.closer) ++ items_ids w.rest)) ++ end_ids o) =
    ap length (line_ids a o z k.zone ∙ (ap (λ y. items_ids y ++ end_ids o) w.whole ∙
    ap (λ y. y ++ end_ids o) (ids_join w.before (block w.lemma w.inside w.closer ∷ w.rest)))) in
    room w.before w.lemma w.inside w.closer w.rest o (length (ids (line_of a o z))) t
  where
    room : (f : List (Item ℕ Closing)) (l : ℕ) (b : List ℕ) (c : Closing) (t : List (Item ℕ Closing)) (o : End ℕ) (n : ℕ)
        → n ≡ length ((items_ids f ++ (item_ids (block l b c) ++ items_ids t)) ++ end_ids o) → length b ≤ n
    room f l b c t o n u =
        omega (
          arith,
          length-append (items_ids f ++ (item_ids (block l b c) ++ items_ids t)) (end_ids o),
          length-append (items_ids f) (item_ids (block l b c) ++ items_ids t),
          length-append (item_ids (block l b c)) (items_ids t),
          length-append b (c.id ∷ []),
        )
