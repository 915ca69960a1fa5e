-- The last of a list.
use Rattle.std.proofs.Common.{
  ◌≡◌,
  ℕ,
  zero,
  suc,
  ◌+◌,
  ◌-◌,
  ◌<◌,
  ◌≤◌,
  List,
  [],
  ◌∷◌,
  ◌++◌,
  length,
  take,
  min,
  get_or,
  refl,
  sym,
  ap,
  ◌∙◌,
  arith,
  length-append,
  append-nil,
  slice_index_or,
}
use Rattle.line_theory.specs.Lists.{last_or}
use Rattle.line_theory.specs.Shapes.{Item}
use Rattle.line_theory.specs.Lines.{Closing, item_ids, items_ids}
use Rattle.vcs_graph.specs.Parts.{inside_of}
use Rattle.vcs_graph.specs.Blocks.{inside_last}
use Rattle.line_theory.proofs.Folded.{items_join}
use Rattle.std.specs.Prelude.{Option, Some, None}
use Rattle.vcs_graph.specs.declared.segment.Closer.{Closer}
use Rattle.vcs_graph.specs.SegmentView.{item_of}
use Rattle.vcs_graph.specs.Parts.{IsBlock, first_of, inside_of, pred}
use Rattle.vcs_graph.proofs.Places.{parted}

at_last : (n d k : ℕ) (b : List ℕ) → suc k ≡ length b → get_or b k d ≡ last_or n b
at_last n d k [] h = absurd (omega arith)
at_last n d zero (x ∷ []) h = refl
at_last n d zero (x ∷ (y ∷ b)) h = absurd (omega arith)
at_last n d (suc k) (x ∷ b) h = at_last x d k b (omega arith)

pub last_join : (n : ℕ) (a b : List ℕ) → last_or n (a ++ b) ≡ last_or (last_or n a) b
last_join n [] b = refl
last_join n (x ∷ a) b = last_join x a b

-- the last id of some items is that of the last
pub last_items : (n : ℕ) (xs : List (Item ℕ Closing)) → 0 < length xs → (x : Item ℕ Closing) →
    x ≡ slice_index_or xs (length xs - 1) x → (r : ℕ) → ((m : ℕ) → r ≡ last_or m (item_ids x)) → r ≡ last_or n (items_ids xs)
last_items n xs h x e r f =
    let p = parted xs (length xs - 1) (omega arith) in
    let none : p.rest ≡ [] = empty p.rest (omega (arith, simp length-append at (ap length p.whole), p.count)) in
    let xe : x ≡ p.item = e ∙ p.at x in
    let whole : xs ≡ p.front ++ (x ∷ []) = p.whole ∙ cc (none, xe) in
    f (last_or n (items_ids p.front)) ∙ sym (ap (λ y. last_or n (items_ids y)) whole ∙
    (ap (λ y. last_or n y) (items_join p.front (x ∷ []) ∙ ap (λ y. items_ids p.front ++ y) (append-nil (item_ids x))) ∙
    last_join n (items_ids p.front) (item_ids x)))
  where
    empty : {A : Type 0} (ys : List A) → length ys ≡ 0 → ys ≡ []
    empty [] h = refl
    empty (y ∷ ys) h = absurd (omega arith)

pub inside_push : (a : List (Item ℕ Closing)) (x : Item ℕ Closing) → inside_last (a ++ (x ∷ [])) ≡ inside_of x
inside_push [] x = refl
inside_push (y ∷ []) x = refl
inside_push (y ∷ (z ∷ zs)) x = inside_push (z ∷ zs) x

-- what is inside of the last of some items
pub inside_items : (xs : List (Item ℕ Closing)) → 0 < length xs → (x : Item ℕ Closing) → x ≡ slice_index_or xs (length xs - 1) x
    → inside_of x ≡ inside_last xs
inside_items xs h x e =
    let p = parted xs (length xs - 1) (omega arith) in
    let none : p.rest ≡ [] = empty p.rest (omega (arith, simp length-append at (ap length p.whole), p.count)) in
    let xe : x ≡ p.item = e ∙ p.at x in
    let whole : xs ≡ p.front ++ (x ∷ []) = p.whole ∙ cc (none, xe) in
    sym (ap inside_last whole ∙ inside_push p.front x)
  where
    empty : {A : Type 0} (ys : List A) → length ys ≡ 0 → ys ≡ []
    empty [] h = refl
    empty (y ∷ ys) h = absurd (omega arith)

pub last_at : (n d k : ℕ) (b : List ℕ) → k + 1 ≡ length b → get_or b k d ≡ last_or n b
last_at n d k b h = at_last n d k b (omega arith)

last_push : (n x : ℕ) (b : List ℕ) → last_or n (b ++ (x ∷ [])) ≡ x
last_push n x [] = refl
last_push n x (y ∷ b) = last_push y x b

-- the last id of a segment that has a closer
pub last_closer : (f : ℕ) (b : List ℕ) (o : Option Closer) (x : Closer) → o ≡ Some x → (n : ℕ) → x.id ≡ last_or n (item_ids (item_of f b o))
last_closer f b None x e n = absurd (cc)
last_closer f b (Some y) x e n = let h : y ≡ x = cc in sym (last_push f y.id b ∙ ap (λ z. z.id) h)

-- the last inside of a block
pub last_inside : (f d k : ℕ) (b : List ℕ) (o : Option Closer) → IsBlock (item_of f b o) → k + 1 ≡ length b →
    get_or b k d ≡ last_or (first_of (item_of f b o)) (inside_of (item_of f b o))
last_inside f d k b None h e = absurd h
last_inside f d k b (Some y) h e = last_at f d k b e

pub at_taken : (n d k : ℕ) (b : List ℕ) → k < length b → get_or b k d ≡ last_or n (take (suc k) b)
at_taken n d k [] h = absurd (omega arith)
at_taken n d zero (x ∷ b) h = refl
at_taken n d (suc k) (x ∷ b) h = at_taken x d k b (omega arith)

pub before_number : (n d k : ℕ) (b : List ℕ) → 0 < k → k ≤ length b → get_or b (k - 1) d ≡ last_or n (take k b)
before_number n d k b h g = let e : suc (k - 1) ≡ k = omega arith in at_taken n d (k - 1) b (omega arith) ∙ ap (λ z. last_or n (take z b)) e

take_min : (j : ℕ) (b : List ℕ) → take (min j (length b)) b ≡ take j b
take_min zero b = let e : min 0 (length b) ≡ 0 = omega arith in ap (λ z. take z b) e
take_min (suc j) [] = let e : min (suc j) 0 ≡ 0 = omega arith in ap (λ z. take {A = ℕ} z []) e
take_min (suc j) (x ∷ b) = let e : min (suc j) (suc (length b)) ≡ suc (min j (length b)) = omega arith in
    ap (λ z. take z (x ∷ b)) e ∙ ap (λ z. x ∷ z) (take_min j b)

take_whole : (b : List ℕ) → take (length b) b ≡ b
take_whole [] = refl
take_whole (x ∷ b) = ap (λ z. x ∷ z) (take_whole b)

pub before_some : (n j k : ℕ) (b : List ℕ) → k ≡ min j (length b) → 0 < k → get_or b (k - 1) 0 ≡ last_or n (take j b)
before_some n j k b e h = before_number n 0 k b h (omega arith) ∙ ap (λ z. last_or n z) (ap (λ y. take y b) e ∙ take_min j b)

pub pred_is : (n : ℕ) → n - 1 ≡ pred n
pred_is zero = omega arith
pred_is (suc n) = omega arith

pub before_all : (n k : ℕ) (b : List ℕ) → k ≡ length b → 0 < k → get_or b (k - 1) 0 ≡ last_or n b
before_all n k b e h = before_number n 0 k b h (omega arith) ∙ ap (λ z. last_or n z) (ap (λ y. take y b) e ∙ take_whole b)
