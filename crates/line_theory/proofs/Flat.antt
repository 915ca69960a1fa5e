-- A line is determined by its two flat lists.
use Rattle.std.proofs.Common.{◌≡◌, ℕ, List, [], ◌∷◌, ◌++◌, Bool, refl, sym, ap, ◌∙◌, append_assoc, append-nil}
use Rattle.line_theory.specs.Lists.{Every}
use Rattle.line_theory.specs.Shapes.{Item, lone, block, End, closed, proof, Focus, last, zone}
use Rattle.line_theory.specs.Flat.{
  Role,
  alone,
  begins,
  within,
  closes,
  Reading,
  item_entries,
  items_entries,
  end_entries,
  front_entries,
  back_entries,
  Text,
  blank,
  push_as,
  push,
  read,
  focus_from,
  Has,
  Ruled,
  RuledEnd,
  RuledFocus,
}
use Rattle.line_theory.specs.Lines.{Closing, Line, items_ids, end_ids, front_of, back_of, front, back}
use Rattle.line_theory.specs.Placed.{by_roles, from_lists, IsRuled}

abbrev text : {E C : Type 0} → List (Item E C) → End E → Text E C
text a o = record { items = a; end = o }

read_join : {E C : Type 0} (R : Reading E C) (t : Text E C) (xs ys : List E) → read R t (xs ++ ys) ≡ read R (read R t xs) ys
read_join R t [] ys = refl
read_join R t (x ∷ xs) ys = read_join R (push R t x) xs ys

pushed : {E C : Type 0} (R : Reading E C) (k : Role) (a : List (Item E C)) (o : End E) (e : E) → Has R k e
    → push R (text a o) e ≡ push_as R.closer k a o e
pushed R k a o e h = ap (λ z. push_as R.closer z a o e) h

read_inner : {E C : Type 0} (R : Reading E C) (a : List (Item E C)) (l : E) (f b : List E) → Every (Has R within) b
    → read R (text a (proof l f)) b ≡ text a (proof l (f ++ b))
read_inner R a l f [] h = ap (λ z. text a (proof l z)) (sym (append-nil f))
read_inner R a l f (e ∷ b) h = ap (λ z. read R z b) (pushed R within a (proof l f) e h.0) ∙ read_inner R a l (f ++ (e ∷ [])) b h.1
    ∙ ap (λ z. text a (proof l z)) (append_assoc f (e ∷ []) b)

read_proof : {E C : Type 0} (R : Reading E C) (a : List (Item E C)) (l : E) (b : List E) → Has R begins l → Every (Has R within) b
    → read R (text a closed) (l ∷ b) ≡ text a (proof l b)
read_proof R a l b k h = ap (λ z. read R z b) (pushed R begins a closed l k) ∙ read_inner R a l [] b h

read_item : {E C : Type 0} (R : Reading E C) (a : List (Item E C)) (x : Item E C) → Ruled R x
    → read R (text a closed) (item_entries R x) ≡ text (a ++ (x ∷ [])) closed
read_item R a (lone e) h = pushed R alone a closed e h
read_item R a (block l b c) h = read_join R (text a closed) (l ∷ b) (R.entry c ∷ [])
    ∙ ap (λ z. push R z (R.entry c)) (read_proof R a l b h.0 h.1.0) ∙ pushed R closes a (proof l b) (R.entry c) h.1.1.0
    ∙ ap (λ z. text (a ++ (block l b z ∷ [])) closed) h.1.1.1

read_items : {E C : Type 0} (R : Reading E C) (a xs : List (Item E C)) → Every (Ruled R) xs
    → read R (text a closed) (items_entries R xs) ≡ text (a ++ xs) closed
read_items R a [] h = ap (λ z. text z closed) (sym (append-nil a))
read_items R a (x ∷ xs) h = read_join R (text a closed) (item_entries R x) (items_entries R xs)
    ∙ ap (λ z. read R z (items_entries R xs)) (read_item R a x h.0) ∙ read_items R (a ++ (x ∷ [])) xs h.1
    ∙ ap (λ z. text z closed) (append_assoc a (x ∷ []) xs)

read_end : {E C : Type 0} (R : Reading E C) (a : List (Item E C)) (o : End E) → RuledEnd R o
    → read R (text a closed) (end_entries o) ≡ text a o
read_end R a closed h = refl
read_end R a (proof l b) h = read_proof R a l b h.0 h.1

pub read_all : {E C : Type 0} (R : Reading E C) (a : List (Item E C)) (o : End E) → Every (Ruled R) a → RuledEnd R o
    → read R blank (items_entries R a ++ end_entries o) ≡ text a o
read_all R a o h k = read_join R blank (items_entries R a) (end_entries o) ∙ ap (λ z. read R z (end_entries o)) (read_items R [] a h)
    ∙ read_end R a o k

-- the items and the focus of two flat lists
pub read_items_back : {E C : Type 0} (R : Reading E C) (a : List (Item E C)) (f : Focus E C) → Every (Ruled R) a → RuledFocus R f
    → (read R blank (items_entries R a ++ front_entries f)).items ≡ a
read_items_back R a (last o) h k = ap (λ (z : Text _ _). z.items) (read_all R a o h k)
read_items_back R a (zone l b c t o) h k = ap (λ (z : Text _ _). z.items) (read_all R a (proof l b) h (k.0.0, k.0.1.0))

pub read_focus_back : {E C : Type 0} (R : Reading E C) (a : List (Item E C)) (f : Focus E C) → Every (Ruled R) a → RuledFocus R f
    → focus_from R (read R blank (items_entries R a ++ front_entries f)).end (back_entries R f) ≡ f
read_focus_back R a (last o) h k = ap (λ (z : Text _ _). focus_from R z.end []) (read_all R a o h k)
read_focus_back R a (zone l b c t o) h k =
    ap (λ (z : Text _ _). focus_from R z.end (R.entry c ∷ (items_entries R t ++ end_entries o)))
    (read_all R a (proof l b) h (k.0.0, k.0.1.0))
    ∙ ap (λ (z : Text _ _). zone l b (R.closer (R.entry c)) z.items z.end) (read_all R t o k.1.0 k.1.1)
    ∙ ap (λ z. zone l b z t o) k.0.1.1.1

-- ---- a line of ids

entries_ids : (role : ℕ → Role) (opaque : ℕ → Bool) (xs : List (Item ℕ Closing)) → items_entries (by_roles role opaque) xs ≡ items_ids xs
entries_ids role opaque [] = refl
entries_ids role opaque (lone e ∷ xs) = ap (λ z. e ∷ z) (entries_ids role opaque xs)
entries_ids role opaque (block l b c ∷ xs) = ap (λ z. (l ∷ (b ++ (c.id ∷ []))) ++ z) (entries_ids role opaque xs)

end_same : (o : End ℕ) → end_entries o ≡ end_ids o
end_same closed = refl
end_same (proof l b) = refl

front_same : (f : Focus ℕ Closing) → front_entries f ≡ front_of f
front_same (last o) = end_same o
front_same (zone l b c t o) = refl

back_same : (role : ℕ → Role) (opaque : ℕ → Bool) (f : Focus ℕ Closing) → back_entries (by_roles role opaque) f ≡ back_of f
back_same role opaque (last o) = refl
back_same role opaque (zone l b c t o) = λ i. c.id ∷ (entries_ids role opaque t i ++ end_same o i)

pub line_read_back : (role : ℕ → Role) (opaque : ℕ → Bool) (d : Line) → IsRuled (by_roles role opaque) d
    → from_lists (by_roles role opaque) (front d) (back d) ≡ d
line_read_back role opaque d h =
    (λ i. from_lists R (sym (entries_ids role opaque d.items) i ++ sym (front_same d.focus) i) (sym (back_same role opaque d.focus) i))
    ∙ (λ i. record { items = read_items_back R d.items d.focus h.0 h.1 i; focus = read_focus_back R d.items d.focus h.0 h.1 i })
  where
    R : Reading ℕ Closing
    R = by_roles role opaque
