-- The block that holds an id, by its place.
use Rattle.std.proofs.Common.{
  ◌≡◌,
  ◌∷◌,
  ◌++◌,
  ℕ,
  zero,
  suc,
  ◌<◌,
  ◌≤◌,
  List,
  [],
  length,
  take,
  drop,
  nat_eq,
  ◌||◌,
  cond,
  Bool,
  true,
  false,
  Option,
  Some,
  None,
  refl,
  sym,
  ap,
  subst,
  ◌∙◌,
  slice_index_or,
  arith,
}
use Rattle.line_theory.specs.Shapes.{Item, lone, block, End, closed, proof, Focus, last}
use Rattle.line_theory.specs.Lines.{Closing, refolded, end_ids}
use Rattle.line_theory.specs.Lists.{has}
use Rattle.vcs_graph.specs.declared.place.Place.{Place}
use Rattle.vcs_graph.specs.declared.place.Part.{Part}
use Rattle.vcs_graph.specs.declared.place.Part.TheVariants.{First, Inside, Closer}
use Rattle.vcs_graph.specs.declared.segment.Closer.{Closer as Ends}
use Rattle.vcs_graph.specs.declared.graph.Opened.{Opened}
use Rattle.vcs_graph.specs.Blocks.{held, open_block, block_at, block_in}
use Rattle.vcs_graph.specs.Parts.{first_of, closer_of, lemma_of}
use Rattle.vcs_graph.specs.Table.{look, all_places}
use Rattle.vcs_graph.specs.GraphView.{zone_from, line_of, OpensFirst, ZoneFits}
use Rattle.vcs_graph.proofs.Viewed.{take_drop}
use Rattle.vcs_graph.proofs.Located.{spot_of, IsPart, IsEndPart, Spotted, found_item, found_end}
use Rattle.vcs_graph.proofs.Lookups.{eq_self}
use Rattle.vcs_graph.proofs.Befores.{parted_by}

fold_from : (f r : List (Item ℕ Closing)) (o : End ℕ) → OpensFirst r → refolded (zone_from f r o) ≡ record {
  items = f ++ r;
  focus = last o;
}
fold_from f [] o h = absurd h
fold_from f (lone i ∷ t) o h = absurd h
fold_from f (block l b c ∷ t) o h = refl

pub refolded_line : (a : List (Item ℕ Closing)) (o : End ℕ) (z : Option Opened) → ZoneFits a z → refolded (line_of a o z)
    ≡ record { items = a; focus = last o }
refolded_line a o None h = refl
refolded_line a o (Some z) h = fold_from (take z.item a) (drop z.item a) o h.0 ∙ ap (λ y. record { items = y; focus = last o })
    (take_drop z.item a)

part_block : (i : ℕ) (q : Part) (f t : List (Item ℕ Closing)) (l : ℕ) (b : List ℕ) (c : Closing) (u : Focus ℕ Closing) →
    IsPart i q (block l b c) → block_at i (spot_of q f (block l b c) t) u ≡ Some (held l c)
part_block i First f t l b c u h = ap (λ y. Some (held y c)) h
part_block i (Inside zero) f t l b c u h = absurd h
part_block i (Inside (suc j)) f t l b c u h = refl
part_block i Closer f t l b c u h = refl

part_lone : (i : ℕ) (q : Part) (f t : List (Item ℕ Closing)) (e : ℕ) (u : Focus ℕ Closing) → IsPart i q (lone e) →
    block_at i (spot_of q f (lone e) t) u ≡ None
part_lone i First f t e u h = refl
part_lone i (Inside j) f t e u h = absurd h
part_lone i Closer f t e u h = absurd h

-- an id that is a part of the block at the end is in it
pub end_has : (i : ℕ) (q : Part) (o : End ℕ) → IsEndPart i q o → has i (end_ids o) ≡ true
end_has i First (proof l b) h = ap (λ t. t || has i b) (subst (λ y. nat_eq i y ≡ true) h (eq_self i))
end_has i (Inside zero) (proof l b) h = absurd h
end_has i (Inside (suc j)) (proof l b) h = ap (λ t. t || has i b) h.0 ∙ (ap (has i) h.1.1.0 ∙ has_middle i (take j b) (drop (suc j) b))
  where
    has_middle : (i : ℕ) (f k : List ℕ) → has i (f ++ (i ∷ k)) ≡ true
    has_middle i [] k = ap (λ t. t || has i k) (eq_self i)
    has_middle i (x ∷ f) k = ap (λ t. nat_eq i x || t) (has_middle i f k) ∙ any (nat_eq i x)
      where
        any : (t : Bool) → (t || true) ≡ true
        any true = refl
        any false = refl
end_has i Closer (proof l b) h = absurd h
end_has i First closed h = absurd h
end_has i (Inside j) closed h = absurd h
end_has i Closer closed h = absurd h

module _ (a : List (Item ℕ Closing)) (o : End ℕ) (i : ℕ) (p : Place) (r : Option Place) (e : r ≡ look i (all_places a o))
    (f : r ≡ Some p) where
  pub block_closed : p.item < length a → (x : Item ℕ Closing) → x ≡ slice_index_or a p.item x → (c : Ends) → closer_of x ≡ Some c
      → Some (record { start = first_of x; stop = Some c.id; opaque = c.opaque }) ≡ block_in i (record { items = a; focus = last o })
  block_closed h x g c k = go s.item refl s.part (g ∙ (parted_by s.front s.item s.rest a p.item s.whole n).1 x)
    where
      s : Spotted i 0 p a
      s = found_item i p a o (sym e ∙ f) h

      n : length s.front ≡ p.item
      n = omega (arith, s.count)

      go : (y : Item ℕ Closing) → s.item ≡ y → IsPart i p.part s.item → x ≡ s.item →
          Some (record { start = first_of x; stop = Some c.id; opaque = c.opaque }) ≡ block_in i (record { items = a; focus = last o })
      go (lone y) q w v = let z : closer_of (lone y) ≡ Some c = ap closer_of (sym q) ∙ (ap closer_of (sym v) ∙ k) in absurd (cc)
      go (block l b d) q w v =
          let z : closer_of (block l b d) ≡ Some c = ap closer_of (sym q) ∙ (ap closer_of (sym v) ∙ k) in
          let y : record { id = d.id; opaque = d.opaque } ≡ c = cc in
          (ap (λ m. Some (record { start = first_of m; stop = Some c.id; opaque = c.opaque })) (v ∙ q) ∙
          ap (λ (m : Ends). Some (record { start = l; stop = Some m.id; opaque = m.opaque })) (sym y))
          ∙ sym (ap (λ m. block_at i m (last o)) (s.spot ∙ ap (λ m. spot_of p.part s.front m s.rest) q) ∙
          part_block i p.part s.front s.rest l b d (last o) (subst (IsPart i p.part) q w))

  pub block_none : p.item < length a → (x : Item ℕ Closing) → x ≡ slice_index_or a p.item x → closer_of x ≡ None →
      None ≡ block_in i (record { items = a; focus = last o })
  block_none h x g k = go s.item refl s.part (g ∙ (parted_by s.front s.item s.rest a p.item s.whole n).1 x)
    where
      s : Spotted i 0 p a
      s = found_item i p a o (sym e ∙ f) h

      n : length s.front ≡ p.item
      n = omega (arith, s.count)

      go : (y : Item ℕ Closing) → s.item ≡ y → IsPart i p.part s.item → x ≡ s.item →
          None ≡ block_in i (record { items = a; focus = last o })
      go (block l b d) q w v = let z : closer_of (block l b d) ≡ None = ap closer_of (sym q) ∙ (ap closer_of (sym v) ∙ k) in absurd (cc)
      go (lone y) q w v = sym (ap (λ m. block_at i m (last o)) (s.spot ∙ ap (λ m. spot_of p.part s.front m s.rest) q) ∙
          part_lone i p.part s.front s.rest y (last o) (subst (IsPart i p.part) q w))

  pub block_open : length a ≤ p.item → (l : ℕ) → lemma_of o ≡ Some l → Some (record { start = l; stop = None; opaque = false })
      ≡ block_in i (record { items = a; focus = last o })
  block_open h l k = go o k (end_has i p.part o (found_end i p a o (sym e ∙ f) h).1) ∙
      sym (ap (λ m. block_at i m (last o)) (found_end i p a o (sym e ∙ f) h).0)
    where
      go : (u : End ℕ) → lemma_of u ≡ Some l → has i (end_ids u) ≡ true →
          Some (record { start = l; stop = None; opaque = false }) ≡ open_block i (last u)
      go closed k g = absurd (cc)
      go (proof m b) k g = let z : m ≡ l = cc in ap (λ y. Some (record { start = y; stop = None; opaque = false })) (sym z) ∙
          sym (ap (λ t. cond t (Some (record { start = m; stop = None; opaque = false })) None) g)

  pub block_open_none : length a ≤ p.item → lemma_of o ≡ None → None ≡ block_in i (record { items = a; focus = last o })
  block_open_none h k = go o k ∙ sym (ap (λ m. block_at i m (last o)) (found_end i p a o (sym e ∙ f) h).0)
    where
      go : (u : End ℕ) → lemma_of u ≡ None → None ≡ open_block i (last u)
      go closed k = refl
      go (proof m b) k = absurd (cc)
