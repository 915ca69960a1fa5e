-- All behind a place goes.
use Rattle.std.proofs.Common.{
  ◌≡◌,
  ℕ,
  zero,
  suc,
  ◌+◌,
  ◌<◌,
  ◌≤◌,
  List,
  [],
  ◌∷◌,
  ◌++◌,
  length,
  take,
  true,
  false,
  refl,
  sym,
  ap,
  subst,
  ◌∙◌,
  arith,
  length-append,
  append-nil,
  slice_index_or,
}
use Rattle.indexmap.specs.IndexMap.{IndexMap}
use Rattle.line_theory.specs.Shapes.{Item, lone, block, End, closed, proof}
use Rattle.line_theory.specs.Lines.{Closing}
use Rattle.vcs_graph.specs.declared.place.Place.{Place}
use Rattle.vcs_graph.specs.declared.place.Part.{Part}
use Rattle.vcs_graph.specs.declared.place.Part.TheVariants.{First, Inside, Closer}
use Rattle.vcs_graph.specs.Parts.{first_of, inside_of, keep, kept_before, opens_behind, opens_from, cut_items, cut_end, left_end}
use Rattle.vcs_graph.specs.Table.{IsTable, inner_places, item_places, items_places, end_places, all_places}
use Rattle.vcs_graph.proofs.Places.{items_join}
use Rattle.vcs_graph.proofs.Befores.{parted_by}

-- up to an item
pub front_more : {A : Type 0} (f t xs : List A) (x : A) (k n : ℕ) → n ≡ suc k → xs ≡ f ++ (x ∷ t) → length f ≡ k → take n xs ≡ f ++ (x ∷ [])
front_more {A = A} f t xs x k n g e c = ap (take n) e ∙ subst (λ y. take y (f ++ (x ∷ t)) ≡ f ++ (x ∷ [])) (ap suc c ∙ sym g) (go f)
  where
    go : (f : List A) → take (suc (length f)) (f ++ (x ∷ t)) ≡ f ++ (x ∷ [])
    go [] = refl
    go (y ∷ f) = ap (λ z. y ∷ z) (go f)

-- a block that loses its closer and keeps its lemma where all behind a part goes
pub record Opening (q : Part) (x : Item ℕ Closing) : Type 0 where
  pub lemma : ℕ
  pub inside : List ℕ
  pub closer : Closing
  pub is : x ≡ block lemma inside closer
  pub items : (f : List (Item ℕ Closing)) → cut_items q f x ≡ f
  pub end : cut_end q x ≡ proof lemma (take (keep q) inside)

pub opening : (q : Part) (x : Item ℕ Closing) → opens_behind q x ≡ true → Opening q x
opening q (lone i) h = absurd (cc)
opening First (block l b c) h = record { lemma = l; inside = b; closer = c; is = refl; items = λ f. refl; end = refl }
opening (Inside j) (block l b c) h = record { lemma = l; inside = b; closer = c; is = refl; items = λ f. refl; end = refl }
opening Closer (block l b c) h = absurd (cc)

pub stays : (q : Part) (f : List (Item ℕ Closing)) (x : Item ℕ Closing) → opens_behind q x ≡ false →
    (f ++ (x ∷ []) ≡ cut_items q f x) × (closed ≡ cut_end q x)
stays First f (lone i) h = (refl, refl)
stays (Inside j) f (lone i) h = (refl, refl)
stays Closer f (lone i) h = (refl, refl)
stays First f (block l b c) h = absurd (cc)
stays (Inside j) f (block l b c) h = absurd (cc)
stays Closer f (block l b c) h = (refl, refl)

-- the same where a part goes with all behind it
pub record OpeningFrom (q : Part) (x : Item ℕ Closing) : Type 0 where
  pub lemma : ℕ
  pub inside : List ℕ
  pub closer : Closing
  pub is : x ≡ block lemma inside closer
  pub end : left_end q x ≡ proof lemma (take (kept_before q (length (inside_of x))) inside)

pub opening_from : (q : Part) (x : Item ℕ Closing) → opens_from q x ≡ true → OpeningFrom q x
opening_from q (lone i) h = absurd (cc)
opening_from First (block l b c) h = absurd (cc)
opening_from (Inside j) (block l b c) h = record { lemma = l; inside = b; closer = c; is = refl; end = refl }
opening_from Closer (block l b c) h = record { lemma = l; inside = b; closer = c; is = refl; end = ap (proof l) (sym (all_taken b)) }
  where
    all_taken : {A : Type 0} (b : List A) → take (length b) b ≡ b
    all_taken [] = refl
    all_taken (x ∷ b) = ap (λ z. x ∷ z) (all_taken b)

pub goes : (q : Part) (x : Item ℕ Closing) → opens_from q x ≡ false → closed ≡ left_end q x
goes First x h = refl
goes (Inside j) (lone i) h = refl
goes Closer (lone i) h = refl
goes (Inside j) (block l b c) h = absurd (cc)
goes Closer (block l b c) h = absurd (cc)

-- of a list up to a place, the last is what stands there
pub up_to_last : {A : Type 0} (f t xs is : List A) (x y : A) (k n : ℕ) → n ≡ suc k → is ≡ take n xs → xs ≡ f ++ (x ∷ t) →
    length f ≡ k → y ≡ slice_index_or is k y → (is ≡ f ++ (x ∷ [])) × (y ≡ x)
up_to_last f t xs is x y k n g e w c h =
    let i : is ≡ f ++ (x ∷ []) = e ∙ front_more f t xs x k n g w c in
    (i, h ∙ (parted_by f x [] is k i c).1 y)

empty_not : {A : Type 0} (g : List A) (y : A) → [] ≡ g ++ (y ∷ []) → ⊥
empty_not [] y h = absurd (cc)
empty_not (u ∷ g) y h = absurd (cc)

-- the last of a list is one
pub last_one : {A : Type 0} (f g : List A) (x y : A) → f ++ (x ∷ []) ≡ g ++ (y ∷ []) → x ≡ y
last_one [] [] x y e = cc
last_one [] (z ∷ g) x y e = absurd (empty_not g y (cc))
last_one (z ∷ f) [] x y e = absurd (empty_not f x (cc))
last_one (z ∷ f) (u ∷ g) x y e = last_one f g x y (cc)

-- the table: nothing at the end, then no items behind a place
pub cut_table : {S : Type 0} {m0 m1 m2 : IndexMap ℕ Place S} (a is : List (Item ℕ Closing)) (o : End ℕ)
    → ((k : ℕ) (x : List (ℕ × Place)) → IsTable m0 (x ++ end_places k o) → IsTable m1 x)
    → ((x : List (ℕ × Place)) → IsTable m1 (x ++ items_places 0 a) → IsTable m2 (x ++ items_places 0 is))
    → IsTable m0 (all_places a o) → IsTable m2 (items_places 0 is)
cut_table a is o s1 s2 h = s2 [] (s1 (length a) (items_places 0 a) h)

pub cut_closed : {S : Type 0} {m : IndexMap ℕ Place S} (is : List (Item ℕ Closing)) → IsTable m (items_places 0 is) →
    IsTable m (all_places is closed)
cut_closed {m = m} is h = subst (λ y. IsTable m y) (sym (append-nil (items_places 0 is))) h

-- then the last item loses its closer and what is behind the place
pub cut_open : {S : Type 0} {m n u : IndexMap ℕ Place S} (is ps : List (Item ℕ Closing)) (s : Item ℕ Closing) (l : ℕ)
    (b : List ℕ) (e f : End ℕ) → is ≡ ps ++ (s ∷ []) → l ≡ first_of s → b ≡ inside_of s → e ≡ proof l b
    → ((k : ℕ) (x y : List (ℕ × Place)) → IsTable m (x ++ (item_places k s ++ y)) →
    IsTable n (x ++ (((first_of s, record { item = k; part = First }) ∷ inner_places k 1 (inside_of s)) ++ y)))
    → ((k : ℕ) (x : List (ℕ × Place)) → IsTable n (x ++ end_places k e) → IsTable u (x ++ end_places k f))
    → IsTable m (items_places 0 is) → IsTable u (all_places ps f)
cut_open {m = m} {n = n} is ps s l b e f i p q r s1 s2 h =
    let g : items_places 0 is ≡ items_places 0 ps ++ (item_places (length ps) s ++ []) = ap (items_places 0) i ∙
    items_join 0 (length ps) ps (s ∷ []) (omega arith) in
    let t1 : IsTable n (items_places 0 ps
    ++ (((first_of s, record { item = length ps; part = First }) ∷ inner_places (length ps) 1 (inside_of s)) ++ [])) =
    s1 (length ps) (items_places 0 ps) [] (subst (λ y. IsTable m y) g h) in
    let w : items_places 0 ps ++ (((first_of s, record { item = length ps; part = First }) ∷ inner_places (length ps) 1
    (inside_of s)) ++ []) ≡ items_places 0 ps ++ end_places (length ps) e =
    ap (λ y. items_places 0 ps ++ y) (append-nil ((first_of s, record { item = length ps; part = First })
    ∷ inner_places (length ps) 1 (inside_of s))) ∙ ap (λ y. items_places 0 ps ++ end_places (length ps) y)
    (sym (r ∙ (ap (λ y. proof y b) p ∙ ap (proof (first_of s)) q))) in
    s2 (length ps) (items_places 0 ps) (subst (λ y. IsTable n y) w t1)
