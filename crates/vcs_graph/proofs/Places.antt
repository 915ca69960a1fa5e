-- The places of the ids of a line: their ids, their number, and what stays where one item or the end changes.
use Rattle.std.proofs.Common.{
  ◌≡◌,
  ℕ,
  zero,
  suc,
  ◌+◌,
  ◌<◌,
  nat_eq,
  List,
  [],
  ◌∷◌,
  ◌++◌,
  length,
  take,
  drop,
  Bool,
  true,
  false,
  ◌||◌,
  cond,
  Option,
  Some,
  refl,
  sym,
  ap,
  ◌∙◌,
  arith,
  length-append,
  append_assoc,
  slice_set,
  slice_index_or,
}
use Rattle.std.specs.Prelude.{is_some}
use Rattle.line_theory.specs.Lists.{has}
use Rattle.line_theory.specs.Shapes.{Item, lone, block, End, closed, proof}
use Rattle.line_theory.specs.Lines.{Closing, item_ids, items_ids, end_ids}
use Rattle.vcs_graph.specs.declared.place.Place.{Place}
use Rattle.vcs_graph.specs.declared.place.Part.TheVariants.{First, Inside, Closer}
use Rattle.vcs_graph.specs.Table.{look, inner_places, item_places, items_places, end_places, all_places}

-- ---- ids

abbrev pub keys_of : {V : Type 0} → List (ℕ × V) → List ℕ
keys_of [] = []
keys_of (e ∷ es) = e.0 ∷ keys_of es

pub keys_join : {V : Type 0} (a b : List (ℕ × V)) → keys_of (a ++ b) ≡ keys_of a ++ keys_of b
keys_join [] b = refl
keys_join (e ∷ a) b = ap (λ z. e.0 ∷ z) (keys_join a b)

some_test : {V : Type 0} (t : Bool) (v : V) (x : Option V) → is_some (cond t (Some v) x) ≡ (t || is_some x)
some_test true v x = refl
some_test false v x = refl

pub keys_has : {V : Type 0} (q : ℕ) (es : List (ℕ × V)) → has q (keys_of es) ≡ is_some (look q es)
keys_has q [] = refl
keys_has q (e ∷ es) = ap (λ z. nat_eq q e.0 || z) (keys_has q es) ∙ sym (some_test (nat_eq q e.0) e.1 (look q es))

pub keys_length : {V : Type 0} (es : List (ℕ × V)) → length (keys_of es) ≡ length es
keys_length [] = refl
keys_length (e ∷ es) = ap suc (keys_length es)

pub inner_keys : (k j : ℕ) (b : List ℕ) → keys_of (inner_places k j b) ≡ b
inner_keys k j [] = refl
inner_keys k j (i ∷ b) = ap (λ z. i ∷ z) (inner_keys k (suc j) b)

item_keys : (k : ℕ) (x : Item ℕ Closing) → keys_of (item_places k x) ≡ item_ids x
item_keys k (lone i) = refl
item_keys k (block l b c) = ap (λ z. l ∷ z) (keys_join (inner_places k 1 b) ((c.id, record { item = k; part = Closer }) ∷ []) ∙
    ap (λ z. z ++ (c.id ∷ [])) (inner_keys k 1 b))

pub items_keys : (k : ℕ) (xs : List (Item ℕ Closing)) → keys_of (items_places k xs) ≡ items_ids xs
items_keys k [] = refl
items_keys k (x ∷ xs) = keys_join (item_places k x) (items_places (suc k) xs) ∙
    (ap (λ z. z ++ keys_of (items_places (suc k) xs)) (item_keys k x) ∙ ap (λ z. item_ids x ++ z) (items_keys (suc k) xs))

pub end_keys : (k : ℕ) (o : End ℕ) → keys_of (end_places k o) ≡ end_ids o
end_keys k closed = refl
end_keys k (proof l b) = ap (λ z. l ∷ z) (inner_keys k 1 b)

pub all_keys : (a : List (Item ℕ Closing)) (o : End ℕ) → keys_of (all_places a o) ≡ items_ids a ++ end_ids o
all_keys a o = keys_join (items_places 0 a) (end_places (length a) o) ∙
    (ap (λ z. z ++ keys_of (end_places (length a) o)) (items_keys 0 a) ∙ ap (λ z. items_ids a ++ z) (end_keys (length a) o))

-- ---- parts

pub inner_push : (k j n i : ℕ) (b : List ℕ) → j + length b ≡ n → inner_places k j (b ++ (i ∷ [])) ≡ inner_places k j b
    ++ ((i, record { item = k; part = Inside n }) ∷ [])
inner_push k j n i [] h = let e : j ≡ n = omega arith in ap (λ z. (i, record { item = k; part = Inside z }) ∷ []) e
inner_push k j n i (x ∷ b) h = ap (λ z. (x, record { item = k; part = Inside j }) ∷ z) (inner_push k (suc j) n i b (omega arith))

pub items_join : (n m : ℕ) (a b : List (Item ℕ Closing)) → n + length a ≡ m → items_places n (a ++ b) ≡ items_places n a ++ items_places m b
items_join n m [] b h = let e : n ≡ m = omega arith in ap (λ z. items_places z b) e
items_join n m (x ∷ a) b h =
    ap (λ z. item_places n x ++ z) (items_join (suc n) m a b (omega arith)) ∙
    sym (append_assoc (item_places n x) (items_places (suc n) a) (items_places m b))

-- what stands before the closer of a block, and from the closer on
abbrev pub up_to : List (Item ℕ Closing) → ℕ → List ℕ → List (ℕ × Place)
up_to f l b = items_places 0 f ++ ((l, record { item = length f; part = First }) ∷ inner_places (length f) 1 b)

abbrev pub from : List (Item ℕ Closing) → Closing → List (Item ℕ Closing) → End ℕ → List (ℕ × Place)
from f c t o = (c.id, record { item = length f; part = Closer }) ∷ (items_places (suc (length f)) t
    ++ end_places (length f + suc (length t)) o)

pub places_around : (f : List (Item ℕ Closing)) (l : ℕ) (b : List ℕ) (c : Closing) (t : List (Item ℕ Closing)) (o : End ℕ)
    → all_places (f ++ (block l b c ∷ t)) o ≡ up_to f l b ++ from f c t o
places_around f l b c t o =
    rw (items_join 0 (length f) f (block l b c ∷ t) (omega arith), length-append f (block l b c ∷ t)) (simp append_assoc)

pub up_push : (f : List (Item ℕ Closing)) (l i : ℕ) (b : List ℕ) → up_to f l (b ++ (i ∷ [])) ≡ up_to f l b
    ++ ((i, record { item = length f; part = Inside (suc (length b)) }) ∷ [])
up_push f l i b =
    rw (inner_push (length f) 1 (suc (length b)) i b (omega arith)) (simp append_assoc)

-- ---- one item of the list

-- a list around the item with a number
pub record Parted {A : Type 0} (xs : List A) (k : ℕ) : Type 0 where
  pub front : List A
  pub item : A
  pub rest : List A
  pub whole : xs ≡ front ++ (item ∷ rest)
  pub count : length front ≡ k
  pub taken : take k xs ≡ front
  pub dropped : drop k xs ≡ item ∷ rest
  pub set : (v : A) → slice_set xs k v ≡ front ++ (v ∷ rest)
  pub at : (d : A) → slice_index_or xs k d ≡ item

pub parted : {A : Type 0} (xs : List A) (k : ℕ) → k < length xs → Parted xs k
parted [] k h = absurd (omega arith)
parted (x ∷ xs) zero h = record {
  front = [];
  item = x;
  rest = xs;
  whole = refl;
  count = refl;
  taken = refl;
  dropped = refl;
  set = λ v. refl;
  at = λ d. refl;
}
parted (x ∷ xs) (suc k) h =
    let p = parted xs k (omega arith) in
    record {
      front = x ∷ p.front;
      item = p.item;
      rest = p.rest;
      whole = ap (λ z. x ∷ z) p.whole;
      count = ap suc p.count;
      taken = ap (λ z. x ∷ z) p.taken;
      dropped = p.dropped;
      set = λ v. ap (λ z. x ∷ z) (p.set v);
      at = p.at;
    }
