-- Ids that are listed.
use Rattle.std.proofs.Common.{
  ◌≡◌,
  ℕ,
  zero,
  suc,
  ◌+◌,
  ◌-◌,
  ◌<◌,
  ◌≤◌,
  List,
  [],
  ◌∷◌,
  ◌++◌,
  length,
  take,
  drop,
  Option,
  refl,
  sym,
  ap,
  subst,
  ◌∙◌,
  arith,
  length-append,
  append_assoc,
  append-nil,
  slice_index_or,
}
use Rattle.indexmap.specs.IndexMap.{IndexMap, index_map_len}
use Rattle.line_theory.specs.Shapes.{Item, lone, block, End, closed, proof}
use Rattle.line_theory.specs.Lines.{Closing, item_ids, items_ids, end_ids}
use Rattle.vcs_graph.specs.declared.place.Place.{Place}
use Rattle.vcs_graph.specs.declared.place.Part.{Part}
use Rattle.vcs_graph.specs.declared.place.Part.TheVariants.{First, Inside, Closer}
use Rattle.vcs_graph.specs.declared.graph.Opened.{Opened}
use Rattle.vcs_graph.specs.Parts.{pred, part_rest, end_rest}
use Rattle.vcs_graph.specs.GraphView.{Kept}
use Rattle.vcs_graph.proofs.Viewed.{line_ids, kept_size}

pub first_rest : (x : Item ℕ Closing) → part_rest First x ≡ item_ids x
first_rest (lone i) = refl
first_rest (block l b c) = refl

pub end_first_rest : (o : End ℕ) → end_rest First o ≡ end_ids o
end_first_rest closed = refl
end_first_rest (proof l b) = refl

drop_short : (k : ℕ) (b : List ℕ) → length (drop k b) ≤ length b
drop_short zero b = omega arith
drop_short (suc k) [] = omega arith
drop_short (suc k) (x ∷ b) = let h = drop_short k b in omega (arith, h)

pub part_short : (q : Part) (x : Item ℕ Closing) → length (part_rest q x) ≤ length (item_ids x)
part_short q (lone i) = omega arith
part_short First (block l b c) = omega arith
part_short (Inside j) (block l b c) = omega (
  arith,
  drop_short (pred j) b,
  length-append (drop (pred j) b) (c.id ∷ []),
  length-append b (c.id ∷ []),
)
part_short Closer (block l b c) = omega (arith, length-append b (c.id ∷ []))

-- one item more
pub items_more : (xs : List (Item ℕ Closing)) (k n : ℕ) (x : Item ℕ Closing) → n ≡ suc k → k < length xs →
    x ≡ slice_index_or xs k x → items_ids (take n xs) ≡ items_ids (take k xs) ++ item_ids x
items_more [] k n x e h g = absurd (omega arith)
items_more (y ∷ ys) zero n x e h g = ap (λ z. items_ids (take z (y ∷ ys))) e ∙ (append-nil (item_ids y) ∙ ap item_ids (sym g))
items_more (y ∷ ys) (suc k) n x e h g =
    ap (λ z. items_ids (take z (y ∷ ys))) e ∙ (ap (λ z. item_ids y ++ z) (items_more ys k (suc k) x refl (omega arith) g) ∙
    sym (append_assoc (item_ids y) (items_ids (take k ys)) (item_ids x)))

pub list_more : (new old init : List ℕ) (xs : List (Item ℕ Closing)) (k n : ℕ) (x : Item ℕ Closing) → n ≡ suc k →
    k < length xs → x ≡ slice_index_or xs k x
    → new ≡ old ++ part_rest First x → old ≡ init ++ items_ids (take k xs) → new ≡ init ++ items_ids (take n xs)
list_more new old init xs k n x e h g a b =
    a ∙ (ap (λ z. z ++ part_rest First x) b ∙ (append_assoc init (items_ids (take k xs)) (part_rest First x)
    ∙ (ap (λ z. init ++ (items_ids (take k xs) ++ z)) (first_rest x) ∙ ap (λ z. init ++ z) (sym (items_more xs k n x e h g)))))

-- an item and what stands behind it
pub number_room : (xs : List (Item ℕ Closing)) (k n : ℕ) (x : Item ℕ Closing) → n ≡ suc k → k < length xs →
    x ≡ slice_index_or xs k x → length (item_ids x) + length (items_ids (drop n xs)) ≤ length (items_ids xs)
number_room [] k n x e h g = absurd (omega arith)
number_room (y ∷ ys) zero n x e h g = subst (λ z. length (item_ids x) + length (items_ids (drop z (y ∷ ys))) ≤ length
    (items_ids (y ∷ ys))) (sym e) (omega (arith, ap (λ z. length (item_ids z)) g, length-append (item_ids y) (items_ids ys)))
number_room (y ∷ ys) (suc k) n x e h g =
    let r = number_room ys k (suc k) x refl (omega arith) g in
    subst (λ z. length (item_ids x) + length (items_ids (drop z (y ∷ ys))) ≤ length (items_ids (y ∷ ys))) (sym e)
    (omega (arith, r, length-append (item_ids y) (items_ids ys)))

pub take_rest : {A : Type 0} (xs : List A) (k : ℕ) → k ≤ length xs → take (length xs - k) (drop k xs) ≡ drop k xs
take_rest {A = A} xs k h = whole (drop k xs) (length xs - k) (count xs k h)
  where
    count : (ys : List A) (j : ℕ) → j ≤ length ys → length ys - j ≡ length (drop j ys)
    count ys zero g = omega arith
    count [] (suc j) g = absurd (omega arith)
    count (y ∷ ys) (suc j) g = let r = count ys j (omega arith) in omega (arith, r)

    whole : (ys : List A) (n : ℕ) → n ≡ length ys → take n ys ≡ ys
    whole ys n e = ap (λ z. take z ys) e ∙ all ys
      where
        all : (ys : List A) → take (length ys) ys ≡ ys
        all [] = refl
        all (y ∷ ys) = ap (λ z. y ∷ z) (all ys)

-- all ids
pub kept_total : {S : Type 0} {a : List (Item ℕ Closing)} {o : End ℕ} {z : Option Opened} {m : IndexMap ℕ Place S} →
    Kept a o z m → length (items_ids a) + length (end_ids o) ≡ index_map_len m
kept_total {a = a} {o = o} {z = z} k =
    sym (length-append (items_ids a) (end_ids o)) ∙ (ap length (sym (line_ids a o z k.zone)) ∙ kept_size k)

pub line_listed : (l1 l2 l3 : List ℕ) (a : List (Item ℕ Closing)) (s : List (Item ℕ Closing)) (o : End ℕ) → s ≡ a → l1 ≡ [] →
    l2 ≡ l1 ++ items_ids s → l3 ≡ l2 ++ end_rest First o → l3 ≡ items_ids a ++ end_ids o
line_listed l1 l2 l3 a s o e p q r = r ∙ (ap (λ z. l2 ++ z) (end_first_rest o) ∙
    ap (λ z. z ++ end_ids o) (q ∙ (ap (λ z. z ++ items_ids s) p ∙ ap items_ids e)))
