-- All behind an id goes.
use Rattle.std.proofs.Common.{
  ◌≡◌,
  ◌⊎◌,
  inl,
  inr,
  ℕ,
  zero,
  suc,
  ◌+◌,
  ◌<◌,
  ◌≤◌,
  nat_eq,
  List,
  [],
  ◌∷◌,
  ◌++◌,
  length,
  take,
  drop,
  true,
  false,
  cond,
  Option,
  Some,
  None,
  refl,
  sym,
  ap,
  subst,
  ◌∙◌,
  arith,
  length-append,
  append_assoc,
  append-nil,
}
use Rattle.std.proofs.lemmas.Bool.Decides.{nat_tests}
use Rattle.std.specs.Prelude.{is_some}
use Rattle.indexmap.specs.IndexMap.{IndexMap}
use Rattle.line_theory.specs.Lists.{has}
use Rattle.line_theory.specs.Shapes.{Item, lone, block, End, closed, proof, last}
use Rattle.line_theory.specs.Lines.{Closing, Line, empty, items_ids, locate, split, missing, dropped_inside, dropped_open, dropped_at, dropped, DropsIn}
use Rattle.vcs_graph.specs.declared.place.Place.{Place}
use Rattle.vcs_graph.specs.declared.place.Part.{Part}
use Rattle.vcs_graph.specs.declared.place.Part.TheVariants.{First, Inside, Closer}
use Rattle.vcs_graph.specs.declared.graph.Opened.{Opened}
use Rattle.vcs_graph.specs.Parts.{keep, IsOpen, body_of, with_body, cut_items, cut_end}
use Rattle.vcs_graph.specs.Table.{look, items_places, end_places, all_places}
use Rattle.vcs_graph.specs.GraphView.{zone_from, line_of, OpensFirst, Kept}
use Rattle.vcs_graph.proofs.Places.{keys_has, items_keys, items_join}
use Rattle.vcs_graph.proofs.Viewed.{take_drop}
use Rattle.vcs_graph.proofs.Located.{spot_of, IsPart, IsEndPart, Spotted, spotted, found_item, found_end}
use Rattle.vcs_graph.proofs.Lookups.{eq_self}
use Rattle.vcs_graph.proofs.Zones.{take_more, look_left}

cut_spot : (i : ℕ) (q : Part) (f t : List (Item ℕ Closing)) (x : Item ℕ Closing) (d : Line) → IsPart i q x →
    dropped_at i (spot_of q f x t) d ≡ record { items = cut_items q f x; focus = last (cut_end q x) }
cut_spot i First f t (lone e) d h = ap (λ y. record { items = f ++ (lone y ∷ []); focus = last closed }) h
cut_spot i First f t (block l b c) d h = ap (λ y. record { items = f; focus = last (proof y []) }) h
cut_spot i (Inside zero) f t (block l b c) d h = absurd h
cut_spot i (Inside (suc j)) f t (block l b c) d h = ap (λ y. record { items = f; focus = last (proof l y) }) (sym (take_more i j b h.0 h.1))
cut_spot i Closer f t (block l b c) d h = refl
cut_spot i (Inside j) f t (lone e) d h = absurd h
cut_spot i Closer f t (lone e) d h = absurd h

-- a part of the block at the end
end_spot : (i : ℕ) (q : Part) (a : List (Item ℕ Closing)) (o : End ℕ) → (nat_eq i i ≡ true) → IsEndPart i q o →
    dropped_open i a (last o) ≡ record { items = a; focus = last (with_body (take (keep q) (body_of o)) o) }
end_spot i First a (proof l b) s h =
    let e : nat_eq i l ≡ true = subst (λ y. nat_eq i y ≡ true) h s in
    ap (λ t. cond t (record { items = a; focus = last (proof l []) }) (dropped_inside a l b i (split i b))) e
end_spot i (Inside zero) a (proof l b) s h = absurd h
end_spot i (Inside (suc j)) a (proof l b) s h =
    ap (λ t. cond t (record { items = a; focus = last (proof l []) }) (dropped_inside a l b i (split i b))) h.0
    ∙ (ap (dropped_inside a l b i) h.1.1.1 ∙ ap (λ y. record { items = a; focus = last (proof l y) }) (sym (take_more i j b h.1.0 h.1.1.0)))
end_spot i Closer a (proof l b) s h = absurd h
end_spot i First a closed s h = absurd h
end_spot i (Inside j) a closed s h = absurd h
end_spot i Closer a closed s h = absurd h

-- an id among the items
pub record Cutting (i : ℕ) (a : List (Item ℕ Closing)) (p : Place) (d : Line) : Type 0 where
  pub front : List (Item ℕ Closing)
  pub item : Item ℕ Closing
  pub rest : List (Item ℕ Closing)
  pub whole : a ≡ front ++ (item ∷ rest)
  pub count : length front ≡ p.item
  pub part : IsPart i p.part item
  pub new : dropped_at i (locate i d.items) d ≡ record { items = cut_items p.part front item; focus = last (cut_end p.part item) }

cutting : (i : ℕ) (a b c : List (Item ℕ Closing)) (p : Place) (d : Line) → b ++ c ≡ a → d.items ≡ b → Spotted i 0 p b → Cutting i a p d
cutting i a b c p d e g s = record {
  front = s.front;
  item = s.item;
  rest = s.rest ++ c;
  whole = sym e ∙ (ap (λ y. y ++ c) s.whole ∙ append_assoc s.front (s.item ∷ s.rest) c);
  count = omega (arith, s.count);
  part = s.part;
  new = ap (λ y. dropped_at i (locate i y) d) g ∙ (ap (λ y. dropped_at i y d) s.spot ∙ cut_spot i p.part s.front s.rest s.item d s.part);
}

-- in a zone: an id before its start
zone_cutting : (i : ℕ) (a : List (Item ℕ Closing)) (o : End ℕ) (z : Opened) (p : Place) → look i (all_places a o) ≡ Some p →
    has i (items_ids (take z.item a)) ≡ true → Spotted i 0 p (take z.item a)
zone_cutting i a o z p h g =
    let f : List (Item ℕ Closing) = take z.item a in
    let r : List (Item ℕ Closing) = drop z.item a in
    let e : all_places a o ≡ items_places 0 f ++ (items_places (length f) r ++ end_places (length a) o) =
    ap (λ y. items_places 0 y ++ end_places (length a) o) (sym (take_drop z.item a)) ∙
    (ap (λ y. y ++ end_places (length a) o) (items_join 0 (length f) f r (omega arith)) ∙ append_assoc (items_places 0 f)
    (items_places (length f) r) (end_places (length a) o)) in
    let s : is_some (look i (items_places 0 f)) ≡ true = sym (keys_has i (items_places 0 f)) ∙ (ap (has i) (items_keys 0 f) ∙ g) in
    let l : look i (items_places 0 f) ≡ Some p = look_left i (items_places 0 f) (items_places (length f) r
    ++ end_places (length a) o) p s (sym (ap (look i) e) ∙ h) in
    go (spotted i 0 p f [] (ap (look i) (append-nil (items_places 0 f)) ∙ l))
  where
    go : Spotted i 0 p (take z.item a) ⊎ ((locate i (take z.item a) ≡ missing) × (look {V = Place} i [] ≡ Some p)) →
        Spotted i 0 p (take z.item a)
    go (inl s) = s
    go (inr s) = let w : look {V = Place} i [] ≡ Some p = s.1 in absurd (cc)

zone_items : (i : ℕ) (f r : List (Item ℕ Closing)) (o : End ℕ) → OpensFirst r → DropsIn i (zone_from f r o).items
    (zone_from f r o).focus → (has i (items_ids f) ≡ true) × ((zone_from f r o).items ≡ f)
zone_items i f [] o h k = absurd h
zone_items i f (lone x ∷ t) o h k = absurd h
zone_items i f (block l b c ∷ t) o h k = (k, refl)

module _ {S : Type 0} {a : List (Item ℕ Closing)} {o : End ℕ} {m : IndexMap ℕ Place S} (i : ℕ) (p : Place) (r : Option Place)
    (e : r ≡ look i (all_places a o)) (f : r ≡ Some p) where
  pub item_cut : (z : Option Opened) → Kept a o z m → DropsIn i (line_of a o z).items (line_of a o z).focus → p.item < length a
      → Cutting i a p (line_of a o z)
  item_cut None k h q = cutting i a a [] p (line_of a o None) (append-nil a) refl (found_item i p a o (sym e ∙ f) q)
  item_cut (Some z) k h q =
      let w = zone_items i (take z.item a) (drop z.item a) o k.zone.0 h in
      cutting i a (take z.item a) (drop z.item a) p (line_of a o (Some z)) (take_drop z.item a) w.1 (zone_cutting i a o z p (sym e ∙ f) w.0)

  pub end_cut : (z : Option Opened) → Kept a o z m → DropsIn i (line_of a o z).items (line_of a o z).focus → length a ≤ p.item
      → (z ≡ None) × (IsEndPart i p.part o × (dropped_at i (locate i (line_of a o z).items) (line_of a o z) ≡ record {
        items =
            a;
        focus = last (with_body (take (keep p.part) (body_of o)) o);
      }))
  end_cut None k h q =
      let s = found_end i p a o (sym e ∙ f) q in
      (refl, (s.1, ap (λ y. dropped_at i y (line_of a o None)) s.0 ∙ end_spot i p.part a o (same i) s.1))
    where
      same : (n : ℕ) → nat_eq n n ≡ true
      same n = eq_self n
  end_cut (Some z) k h q =
      let w = zone_items i (take z.item a) (drop z.item a) o k.zone.0 h in
      let s = zone_cutting i a o z p (sym e ∙ f) w.0 in
      let l : length a ≡ length (take z.item a) + length (drop z.item a) = ap length (sym (take_drop z.item a)) ∙
      length-append (take z.item a) (drop z.item a) in
      let n : length (take z.item a) ≡ length s.front + length (s.item ∷ s.rest) = ap length s.whole ∙
      length-append s.front (s.item ∷ s.rest) in
      absurd (omega (arith, s.count, l, n, q))

pub end_open : (i : ℕ) (q : Part) (o : End ℕ) → IsEndPart i q o → IsOpen o
end_open i q (proof l b) h = tt
end_open i First closed h = absurd h
end_open i (Inside j) closed h = absurd h
end_open i Closer closed h = absurd h

-- the whole change
pub not_one : (i : ℕ) (d : Line) → nat_eq i 1 ≡ false → dropped i d ≡ dropped_at i (locate i d.items) d
not_one i d h = ap (λ t. cond t empty (dropped_at i (locate i d.items) d)) h

pub one : (i : ℕ) (d : Line) → nat_eq i 1 ≡ true → empty ≡ dropped i d
one i d h = sym (ap (λ t. cond t empty (dropped_at i (locate i d.items) d)) h)

pub not_same : (n : ℕ) → (n ≡ 1 → ⊥) → nat_eq n 1 ≡ false
not_same n h = grind (arith, nat_tests)

pub both : (a b : List (Item ℕ Closing)) (o u : End ℕ) → a ≡ b → o ≡ u → ◌≡◌ {A = Line} (record { items = a; focus = last o })
    (record { items = b; focus = last u })
both a b o u e f = λ i. record { items = e i; focus = last (f i) }
