-- A line with its entries is the document that these entries are of.
use Rattle.std.proofs.Common.{◌≡◌, ℕ, List, [], ◌∷◌, ◌++◌, map, refl, ap}
use Rattle.line_theory.specs.Lists.{Every}
use Rattle.line_theory.specs.Shapes as shapes
use Rattle.line_theory.specs.Shapes.{map_item, map_focus, map_end, lone, block, closed, proof, last, zone}
use Rattle.line_theory.specs.Lines.{Line, Closing}
use Rattle.line_theory.proofs.Lists.{every_join, every_parts}
use Rattle.doc_theory.specs.Documents.{Entry, Item, End, Focus, Document, entries_of, entries, end_entries, focus_entries, live}
use Rattle.doc_theory.specs.Shape.{closing, shape_items, shape_end, shape_focus, shape}
use Rattle.doc_store.specs.Stored.{filled}

-- each of these entries is the one that its id has
abbrev pub Agrees : (ℕ → Entry) → List Entry → Type 0
Agrees f es = Every (λ e. f e.id ≡ e) es

back : (f : ℕ → Entry) (b : List Entry) → Agrees f b → map f (map (λ e. e.id) b) ≡ b
back f [] h = refl
back f (e ∷ es) h = λ i. h.0 i ∷ back f es h.1 i

item_back : (f : ℕ → Entry) (x : Item) → Agrees f (entries_of x) → map_item f (λ c. f c.id) (map_item (λ e. e.id) closing x) ≡ x
item_back f (lone e) h = ap lone h.0
item_back f (block l b c) h =
    let parts : Agrees f b × Agrees f (c ∷ []) = every_parts (λ e. f e.id ≡ e) b (c ∷ []) h.1 in
    λ i. block (h.0 i) (back f b parts.0 i) (parts.1.0 i)

pub items_back : (f : ℕ → Entry) (xs : List Item) → Agrees f (entries xs) → map (map_item f (λ c. f c.id)) (shape_items xs) ≡ xs
items_back f [] h = refl
items_back f (x ∷ xs) h =
    let parts : Agrees f (entries_of x) × Agrees f (entries xs) = every_parts (λ e. f e.id ≡ e) (entries_of x) (entries xs) h in
    λ i. item_back f x parts.0 i ∷ items_back f xs parts.1 i

end_back : (f : ℕ → Entry) (o : End) → Agrees f (end_entries o) → map_end f (shape_end o) ≡ o
end_back f closed h = refl
end_back f (proof l b) h = λ i. proof (h.0 i) (back f b h.1 i)

focus_back : (f : ℕ → Entry) (g : Focus) → Agrees f (focus_entries g) → map_focus f (λ c. f c.id) (shape_focus g) ≡ g
focus_back f (last o) h = ap last (end_back f o h)
focus_back f (zone l b c t o) h =
    let inner : Agrees f b × Agrees f (c ∷ (entries t ++ end_entries o)) =
    every_parts (λ e. f e.id ≡ e) b (c ∷ (entries t ++ end_entries o)) h.1 in
    let rest : Agrees f (entries t) × Agrees f (end_entries o) =
    every_parts (λ e. f e.id ≡ e) (entries t) (end_entries o) inner.1.1 in
    λ i. zone (h.0 i) (back f b inner.0 i) (inner.1.0 i) (items_back f t rest.0 i) (end_back f o rest.1 i)

-- the document is its shape with these entries
pub filled_is : (f : ℕ → Entry) (e : Document) → Agrees f (live e) → filled f (shape e) e.next e.limit ≡ e
filled_is f e h =
    let parts : Agrees f (entries e.items) × Agrees f (focus_entries e.focus) =
    every_parts (λ x. f x.id ≡ x) (entries e.items) (focus_entries e.focus) h in
    λ i. record { items = items_back f e.items parts.0 i; focus = focus_back f e.focus parts.1 i; next = e.next; limit = e.limit }

-- ---- the entries of a line

module _ (f : ℕ → Entry) (own : (i : ℕ) → (f i).id ≡ i) where
  each : (n : ℕ) → f (f n).id ≡ f n
  each n = ap f (own n)

  mapped : (b : List ℕ) → Agrees f (map f b)
  mapped [] = tt
  mapped (n ∷ ns) = (each n, mapped ns)

  item_entries : (x : shapes.Item ℕ Closing) → Agrees f (entries_of (map_item f (λ c. f c.id) x))
  item_entries (lone n) = (each n, tt)
  item_entries (block l b c) = (each l, every_join (λ e. f e.id ≡ e) (map f b) (f c.id ∷ []) (mapped b) (each c.id, tt))

  items_entries : (xs : List (shapes.Item ℕ Closing)) → Agrees f (entries (map (map_item f (λ c. f c.id)) xs))
  items_entries [] = tt
  items_entries (x ∷ xs) = every_join (λ e. f e.id ≡ e) (entries_of (map_item f (λ c. f c.id) x))
      (entries (map (map_item f (λ c. f c.id)) xs)) (item_entries x) (items_entries xs)

  ends_entries : (o : shapes.End ℕ) → Agrees f (end_entries (map_end f o))
  ends_entries closed = tt
  ends_entries (proof l b) = (each l, mapped b)

  focuses_entries : (g : shapes.Focus ℕ Closing) → Agrees f (focus_entries (map_focus f (λ c. f c.id) g))
  focuses_entries (last o) = ends_entries o
  focuses_entries (zone l b c t o) = (
    each l,
    every_join (λ e. f e.id ≡ e) (map f b)
        (f c.id ∷ (entries (map (map_item f (λ c. f c.id)) t) ++ end_entries (map_end f o))) (mapped b) (
          each c.id,
          every_join (λ e. f e.id ≡ e) (entries (map (map_item f (λ c. f c.id)) t)) (end_entries (map_end f o))
              (items_entries t) (ends_entries o),
        ),
  )

  -- each live entry of a line with its entries is the one that its id has
  pub agrees_filled : (l : Line) (n m : ℕ) → Agrees f (live (filled f l n m))
  agrees_filled l n m = every_join (λ e. f e.id ≡ e) (entries (map (map_item f (λ c. f c.id)) l.items))
      (focus_entries (map_focus f (λ c. f c.id) l.focus)) (items_entries l.items) (focuses_entries l.focus)
