-- The id before another.
use Rattle.std.proofs.Common.{
  ◌≡◌,
  ℕ,
  zero,
  suc,
  ◌<◌,
  ◌≤◌,
  nat_eq,
  List,
  [],
  ◌∷◌,
  ◌++◌,
  length,
  take,
  drop,
  Bool,
  true,
  false,
  ◌||◌,
  cond,
  Option,
  Some,
  None,
  refl,
  sym,
  ap,
  subst,
  ◌∙◌,
  arith,
  append_assoc,
  slice_index_or,
}
use Rattle.std.specs.Prelude.{is_some}
use Rattle.indexmap.specs.IndexMap.{IndexMap}
use Rattle.line_theory.specs.Lists.{has, last_or, before_in}
use Rattle.line_theory.specs.Shapes.{Item, lone, block, End, closed, proof}
use Rattle.line_theory.specs.Lines.{Closing, item_ids, items_ids, end_ids, ids, before}
use Rattle.line_theory.proofs.Folded.{items_join}
use Rattle.vcs_graph.specs.declared.place.Place.{Place}
use Rattle.vcs_graph.specs.declared.place.Part.{Part}
use Rattle.vcs_graph.specs.declared.place.Part.TheVariants.{First, Inside, Closer}
use Rattle.vcs_graph.specs.declared.graph.Opened.{Opened}
use Rattle.vcs_graph.specs.Table.{look, Apart, all_places}
use Rattle.vcs_graph.specs.GraphView.{line_of, Kept}
use Rattle.vcs_graph.proofs.Lookups.{eq_sym, eq_self}
use Rattle.vcs_graph.proofs.Places.{keys_of, keys_has, all_keys}
use Rattle.vcs_graph.proofs.Viewed.{kept_ids}
use Rattle.vcs_graph.proofs.Located.{IsPart, Spotted, IsEndPart, found_item, found_end}
use Rattle.vcs_graph.proofs.Lasts.{last_join}
use Rattle.vcs_graph.specs.Parts.{part_front, end_front}

-- of pairs whose numbers differ, what stands before a number doesn't have it
front_free : {V : Type 0} (i : ℕ) (es : List (ℕ × V)) (f g : List ℕ) → Apart es → keys_of es ≡ f ++ (i ∷ g) → has i f ≡ false
front_free i es [] g h e = refl
front_free i [] (x ∷ f) g h e = absurd (cc)
front_free {V = V} i (p ∷ es) (x ∷ f) g h e =
    let head : p.0 ≡ x = cc in
    let tail : keys_of es ≡ f ++ (i ∷ g) = cc in
    let none : has p.0 (keys_of es) ≡ false = keys_has p.0 es ∙ ap is_some h.0 in
    let apart : has x (f ++ (i ∷ g)) ≡ false = sym (cc (head, tail)) ∙ none in
    ap (λ z. z || has i f) (eq_sym i x ∙ not_in x i f g apart) ∙ front_free i es f g h.1 tail
  where
    either : (a b : Bool) → (a || b) ≡ false → (a ≡ false) × (b ≡ false)
    either true b h = absurd (cc)
    either false b h = (refl, h)

    not_in : (x i : ℕ) (f g : List ℕ) → has x (f ++ (i ∷ g)) ≡ false → nat_eq x i ≡ false
    not_in x i [] g h = (either (nat_eq x i) (has x g) h).0
    not_in x i (y ∷ f) g h = not_in x i f g (either (nat_eq x y) (has x (f ++ (i ∷ g))) h).1

before_front : (n i : ℕ) (f g : List ℕ) → has i f ≡ false → before_in n i (f ++ (i ∷ g)) ≡ last_or n f
before_front n i [] g h = ap (λ t. cond t n (before_in i i g)) (eq_self i)
before_front n i (x ∷ f) g h =
    let r = either (nat_eq i x) (has i f) h in
    ap (λ t. cond t n (before_in x i (f ++ (i ∷ g)))) r.0 ∙ before_front x i f g r.1
  where
    either : (a b : Bool) → (a || b) ≡ false → (a ≡ false) × (b ≡ false)
    either true b h = absurd (cc)
    either false b h = (refl, h)

-- what stands behind a part of an item, in it
abbrev pub part_back : Part → Item ℕ Closing → List ℕ
part_back First (lone i) = []
part_back First (block l b c) = b ++ (c.id ∷ [])
part_back (Inside zero) (block l b c) = []
part_back (Inside (suc j)) (block l b c) = drop (suc j) b ++ (c.id ∷ [])
part_back Closer (block l b c) = []
part_back (Inside j) (lone i) = []
part_back Closer (lone i) = []

part_ids : (i : ℕ) (p : Part) (x : Item ℕ Closing) → IsPart i p x → item_ids x ≡ part_front p x ++ (i ∷ part_back p x)
part_ids i First (lone e) h = ap (λ z. z ∷ []) (sym h)
part_ids i First (block l b c) h = ap (λ z. z ∷ (b ++ (c.id ∷ []))) (sym h)
part_ids i (Inside zero) (block l b c) h = absurd h
part_ids i (Inside (suc j)) (block l b c) h = ap (λ z. l ∷ (z ++ (c.id ∷ []))) h.1 ∙
    ap (λ z. l ∷ z) (append_assoc (take j b) (i ∷ drop (suc j) b) (c.id ∷ []))
part_ids i Closer (block l b c) h = ap (λ z. l ∷ (b ++ (z ∷ []))) (sym h)
part_ids i (Inside j) (lone e) h = absurd h
part_ids i Closer (lone e) h = absurd h

abbrev pub end_back : Part → End ℕ → List ℕ
end_back p closed = []
end_back First (proof l b) = b
end_back (Inside zero) (proof l b) = []
end_back (Inside (suc j)) (proof l b) = drop (suc j) b
end_back Closer (proof l b) = []

end_part_ids : (i : ℕ) (p : Part) (o : End ℕ) → IsEndPart i p o → end_ids o ≡ end_front p o ++ (i ∷ end_back p o)
end_part_ids i First (proof l b) h = ap (λ z. z ∷ b) (sym h)
end_part_ids i (Inside zero) (proof l b) h = absurd h
end_part_ids i (Inside (suc j)) (proof l b) h = ap (λ z. l ∷ z) h.1.1.0
end_part_ids i Closer (proof l b) h = absurd h
end_part_ids i First closed h = absurd h
end_part_ids i (Inside j) closed h = absurd h
end_part_ids i Closer closed h = absurd h

-- a list whose parts are known, at the number of the one in the middle
pub parted_by : {A : Type 0} (f : List A) (x : A) (t xs : List A) (k : ℕ) → xs ≡ f ++ (x ∷ t) → length f ≡ k → (take k xs ≡ f) ×
    ((d : A) → slice_index_or xs k d ≡ x)
parted_by {A = A} f x t xs k e c = subst (λ y. (take y xs ≡ f) × ((d : A) → slice_index_or xs y d ≡ x)) c
    (subst (λ y. (take (length f) y ≡ f) × ((d : A) → slice_index_or y (length f) d ≡ x)) (sym e) (front_taken f, λ d. middle f d))
  where
    front_taken : (f : List A) → take (length f) (f ++ (x ∷ t)) ≡ f
    front_taken [] = refl
    front_taken (y ∷ f) = ap (λ z. y ∷ z) (front_taken f)

    middle : (f : List A) (d : A) → slice_index_or (f ++ (x ∷ t)) (length f) d ≡ x
    middle [] d = refl
    middle (y ∷ f) d = middle f d

module _ {S : Type 0} {a : List (Item ℕ Closing)} {o : End ℕ} {z : Option Opened} {m : IndexMap ℕ Place S} (k : Kept a o z m) where
  before_at : (i : ℕ) (f g : List ℕ) → items_ids a ++ end_ids o ≡ f ++ (i ∷ g) → before i (line_of a o z) ≡ last_or 1 f
  before_at i f g e =
      ap (before_in 1 i) (kept_ids k ∙ (all_keys a o ∙ e)) ∙
      before_front 1 i f g (front_free i (all_places a o) f g k.table.apart (all_keys a o ∙ e))

  -- before an id of the items
  pub before_item : (i : ℕ) (p : Place) (s : Spotted i 0 p a) → before i (line_of a o z)
      ≡ last_or (last_or 1 (items_ids s.front)) (part_front p.part s.item)
  before_item i p s =
      let e : items_ids a ≡ items_ids s.front ++ ((part_front p.part s.item ++ (i ∷ part_back p.part s.item)) ++ items_ids s.rest) =
      ap items_ids s.whole ∙ (items_join s.front (s.item ∷ s.rest) ∙ ap (λ y. items_ids s.front ++ (y ++ items_ids s.rest))
      (part_ids i p.part s.item s.part)) in
      before_at i (items_ids s.front ++ part_front p.part s.item) (part_back p.part s.item ++ (items_ids s.rest ++ end_ids o))
      (ap (λ y. y ++ end_ids o) e ∙ simp append_assoc)
      ∙ last_join 1 (items_ids s.front) (part_front p.part s.item)

  -- before an id of the open block
  pub before_end : (i : ℕ) (p : Place) → IsEndPart i p.part o → before i (line_of a o z) ≡ last_or (last_or 1 (items_ids a))
      (end_front p.part o)
  before_end i p h =
      before_at i (items_ids a ++ end_front p.part o) (end_back p.part o)
      (ap (λ y. items_ids a ++ y) (end_part_ids i p.part o h) ∙
      sym (append_assoc (items_ids a) (end_front p.part o) (i ∷ end_back p.part o)))
      ∙ last_join 1 (items_ids a) (end_front p.part o)

  -- the answer for an id with a place among the items
  pub before_found : (i : ℕ) (p : Place) (r : Option Place) → r ≡ look i (all_places a o) → r ≡ Some p → p.item < length a →
      (x : Item ℕ Closing) → x ≡ slice_index_or a p.item x
      → (w : ℕ) → w ≡ last_or 1 (items_ids (take p.item a)) → last_or w (part_front p.part x) ≡ before i (line_of a o z)
  before_found i p r e f h x g w v =
      let s = found_item i p a o (sym e ∙ f) h in
      let c : length s.front ≡ p.item = omega (arith, s.count) in
      let q = parted_by s.front s.item s.rest a p.item s.whole c in
      ap (λ y. last_or y (part_front p.part x)) (v ∙ ap (λ y. last_or 1 (items_ids y)) q.0) ∙
      (ap (λ y. last_or (last_or 1 (items_ids s.front)) (part_front p.part y)) (g ∙ q.1 x) ∙ sym (before_item i p s))

  pub before_found_end : (i : ℕ) (p : Place) (r : Option Place) → r ≡ look i (all_places a o) → r ≡ Some p → length a ≤ p.item
      → (w : ℕ) → w ≡ last_or 1 (items_ids a) → last_or w (end_front p.part o) ≡ before i (line_of a o z)
  before_found_end i p r e f h w v =
      let s = found_end i p a o (sym e ∙ f) h in
      ap (λ y. last_or y (end_front p.part o)) v ∙ sym (before_end i p s.1)

  pub absent_no : (i : ℕ) (r : Option Place) → r ≡ look i (all_places a o) → r ≡ None → has i (ids (line_of a o z)) ≡ true → ⊥
  absent_no i r e f h =
      let g : look i (all_places a o) ≡ None = sym e ∙ f in
      let u : has i (ids (line_of a o z)) ≡ false = ap (has i) (kept_ids k) ∙ (keys_has i (all_places a o) ∙ ap is_some g) in
      absurd (cc)
