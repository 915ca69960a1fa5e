-- The sizes of items.
use Rattle.std.proofs.Common.{
  ◌≡◌,
  ℕ,
  zero,
  suc,
  ◌+◌,
  ◌<◌,
  ◌≤◌,
  List,
  [],
  ◌∷◌,
  ◌++◌,
  length,
  take,
  get_or,
  slice_set,
  slice_index_or,
  refl,
  sym,
  ap,
  subst,
  ◌∙◌,
  arith,
  length-append,
}
use Rattle.line_theory.specs.Shapes.{Item, lone, block}
use Rattle.line_theory.specs.Lines.{Closing, item_ids, items_ids}
use Rattle.vcs_graph.specs.declared.place.Part.{Part}
use Rattle.vcs_graph.specs.declared.place.Part.TheVariants.{First, Inside, Closer}
use Rattle.vcs_graph.specs.Parts.{cut_items, inside_of, with_inside, IsBlock}
use Rattle.vcs_graph.specs.GraphView.{sizes_of}
use Rattle.vcs_graph.specs.Sums.{sum_to}
use Rattle.vcs_graph.proofs.Sums.{set_behind}

pub sizes_length : (a : List (Item ℕ Closing)) → length (sizes_of a) ≡ length a
sizes_length [] = refl
sizes_length (x ∷ a) = ap suc (sizes_length a)

-- the sum of the first sizes is the number of the ids of these items
pub sizes_sum : (n : ℕ) (a : List (Item ℕ Closing)) → sum_to n (sizes_of a) ≡ length (items_ids (take n a))
sizes_sum zero a = refl
sizes_sum (suc n) [] = refl
sizes_sum (suc n) (x ∷ a) = omega (arith, sizes_sum n a, length-append (item_ids x) (items_ids (take n a)))

pub sizes_total : (a : List (Item ℕ Closing)) → sum_to (length (sizes_of a)) (sizes_of a) ≡ length (items_ids a)
sizes_total [] = refl
sizes_total (x ∷ a) = omega (arith, sizes_total a, length-append (item_ids x) (items_ids a))

pub sizes_join : (a b : List (Item ℕ Closing)) → sizes_of (a ++ b) ≡ sizes_of a ++ sizes_of b
sizes_join [] b = refl
sizes_join (x ∷ a) b = ap (λ y. length (item_ids x) ∷ y) (sizes_join a b)

pub sizes_set : (a : List (Item ℕ Closing)) (n : ℕ) (v : Item ℕ Closing) → sizes_of (slice_set a n v) ≡ slice_set (sizes_of a) n
    (length (item_ids v))
sizes_set [] n v = refl
sizes_set (x ∷ a) zero v = refl
sizes_set (x ∷ a) (suc n) v = ap (λ y. length (item_ids x) ∷ y) (sizes_set a n v)

pub sizes_at : (a : List (Item ℕ Closing)) (n : ℕ) (x : Item ℕ Closing) → n < length a → x ≡ slice_index_or a n x
    → get_or (sizes_of a) n 0 ≡ length (item_ids x)
sizes_at [] n x h e = absurd (omega arith)
sizes_at (y ∷ a) zero x h e = ap (λ z. length (item_ids z)) (sym e)
sizes_at (y ∷ a) (suc n) x h e = sizes_at a n x (omega arith) e

sizes_front : (f t : List (Item ℕ Closing)) → take (length f) (sizes_of (f ++ t)) ≡ sizes_of f
sizes_front [] t = refl
sizes_front (x ∷ f) t = ap (λ y. length (item_ids x) ∷ y) (sizes_front f t)

sizes_more : (f : List (Item ℕ Closing)) (x : Item ℕ Closing) (t : List (Item ℕ Closing))
    → take (length (f ++ (x ∷ []))) (sizes_of (f ++ (x ∷ t))) ≡ sizes_of (f ++ (x ∷ []))
sizes_more [] x t = refl
sizes_more (y ∷ f) x t = ap (λ z. length (item_ids y) ∷ z) (sizes_more f x t)

sizes_cut : (p : Part) (f : List (Item ℕ Closing)) (x : Item ℕ Closing) (t : List (Item ℕ Closing))
    → take (length (cut_items p f x)) (sizes_of (f ++ (x ∷ t))) ≡ sizes_of (cut_items p f x)
sizes_cut First f (lone i) t = sizes_more f (lone i) t
sizes_cut First f (block l b c) t = sizes_front f (block l b c ∷ t)
sizes_cut (Inside j) f (lone i) t = sizes_more f (lone i) t
sizes_cut (Inside j) f (block l b c) t = sizes_front f (block l b c ∷ t)
sizes_cut Closer f x t = sizes_more f x t

-- the sizes of what stays of some items
pub sizes_left : (f t a b : List (Item ℕ Closing)) (s : List ℕ) (n : ℕ) → a ≡ f ++ t → b ≡ f → s ≡ sizes_of a → n ≡ length b
    → take n s ≡ sizes_of b
sizes_left f t a b s n ae be se ne = ap (λ y. take y s) (ne ∙ ap length be) ∙ (ap (take (length f)) (se ∙ ap sizes_of ae)
    ∙ (sizes_front f t ∙ ap sizes_of (sym be)))

pub sizes_after : (p : Part) (f : List (Item ℕ Closing)) (x : Item ℕ Closing) (t a b : List (Item ℕ Closing)) (s : List ℕ) (n : ℕ)
    → a ≡ f ++ (x ∷ t) → b ≡ cut_items p f x → s ≡ sizes_of a → n ≡ length b → take n s ≡ sizes_of b
sizes_after p f x t a b s n ae be se ne = ap (λ y. take y s) (ne ∙ ap length be) ∙
    (ap (take (length (cut_items p f x))) (se ∙ ap sizes_of ae) ∙ (sizes_cut p f x t ∙ ap sizes_of (sym be)))

pub block_size : (x : Item ℕ Closing) → IsBlock x → length (item_ids x) ≡ length (inside_of x) + 2
block_size (lone i) h = absurd h
block_size (block l b c) h = omega (arith, length-append b (c.id ∷ []))

-- a block with another inside
pub inside_size : (b : List ℕ) (x : Item ℕ Closing) → IsBlock x → length (item_ids (with_inside b x)) ≡ length b + 2
inside_size b (lone i) h = absurd h
inside_size b (block l k c) h = omega (arith, length-append b (c.id ∷ []))

-- the sum where one size is changed
pub sum_set : (sizes : List ℕ) (n v : ℕ) → n < length sizes → sum_to (length sizes) (slice_set sizes n v) + get_or sizes n 0
    ≡ sum_to (length sizes) sizes + v
sum_set sizes n v h = set_behind (length sizes) n v sizes h h
