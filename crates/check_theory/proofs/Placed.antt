-- The live sentences of a document in order: each was read, and stands where a proof is open or where none is.
use Rattle.std.proofs.Common.{List, [], ◌∷◌, ◌++◌, map, Bool, true, false, sym, subst, append_assoc}
use Rattle.line_theory.specs.Lists.{Every}
use Rattle.line_theory.specs.Shapes.{lone, block, closed, proof, last, zone}
use Rattle.line_theory.specs.Flat.{Role, alone, begins, within, closes}
use Rattle.doc_theory.specs.Documents.{Entry, delegates, Item, End, Focus, Document, Home, outside, home, Mark, mark, marks_of, item_marks, end_marks, focus_marks, marks}
use Rattle.doc_theory.specs.Flat.{role_of}
use Rattle.check_theory.specs.Read.{IsRead, AreRead, Does, ItemRead, EndRead, FocusRead, DocumentRead}

-- a sentence that does this stands where a proof is open, or where none is
abbrev pub Allows : Bool → Role → Type 0
Allows false alone = Unit {0}
Allows false begins = Unit {0}
Allows true within = Unit {0}
Allows true closes = Unit {0}
Allows b r = ⊥

-- whether a proof is open behind it
abbrev pub opens : Role → Bool
opens alone = false
opens begins = true
opens within = true
opens closes = false

abbrev pub Placed : Bool → List Mark → Type 0
Placed b [] = Unit {0}
Placed b (m ∷ ms) = IsRead m.sentence × Allows b (role_of m.sentence.kind) × Placed (opens (role_of m.sentence.kind)) ms

-- a sentence before others
put : (r : Role) (b : Bool) → Allows b r → (h : Home) (e : Entry) (ms : List Mark) → Does r e → Placed (opens r) ms → Placed b (mark h e ∷ ms)
put r b a h e ms d k = (d.0, subst (Allows b) (sym d.1) a, subst (λ q. Placed (opens q) ms) (sym d.1) k)

put_inner : (h : Home) (b : List Entry) (ms : List Mark) → Every (Does within) b → Placed true ms → Placed true (map (mark h) b ++ ms)
put_inner h [] ms d k = k
put_inner h (e ∷ b) ms d k = put within true tt h e (map (mark h) b ++ ms) d.0 (put_inner h b ms d.1 k)

put_item : (x : Item) (ms : List Mark) → ItemRead x → Placed false ms → Placed false (marks_of x ++ ms)
put_item (lone e) ms d k = put alone false tt outside e ms d k
put_item (block l b c) ms d k =
    put begins false tt outside l ((map (mark h) b ++ (mark h c ∷ [])) ++ ms) d.0
    (subst (Placed true) (sym (append_assoc (map (mark h) b) (mark h c ∷ []) ms)) (put_inner h b (mark h c ∷ ms) d.1
    (put closes true tt h c ms d.2 k)))
  where
    h : Home
    h = home (delegates c.sentence.kind) l.id

put_items : (xs : List Item) (ms : List Mark) → Every ItemRead xs → Placed false ms → Placed false (item_marks xs ++ ms)
put_items [] ms d k = k
put_items (x ∷ xs) ms d k =
    subst (Placed false) (sym (append_assoc (marks_of x) (item_marks xs) ms)) (put_item x (item_marks xs ++ ms) d.0 (put_items xs ms d.1 k))

end_placed : (o : End) → EndRead o → Placed false (end_marks o)
end_placed closed d = tt
end_placed (proof l b) d = put begins false tt outside l (map (mark outside) b) d.0 (go b d.1)
  where
    go : (b : List Entry) → Every (Does within) b → Placed true (map (mark outside) b)
    go [] k = tt
    go (e ∷ b) k = put within true tt outside e (map (mark outside) b) k.0 (go b k.1)

focus_placed : (f : Focus) → FocusRead f → Placed false (focus_marks f)
focus_placed (last o) d = end_placed o d
focus_placed (zone l b c t o) d =
    put begins false tt outside l (map (mark outside) b ++ (mark outside c ∷ (item_marks t ++ end_marks o))) d.0.0
    (put_inner outside b (mark outside c ∷ (item_marks t ++ end_marks o)) d.0.1
    (put closes true tt outside c (item_marks t ++ end_marks o) d.0.2 (put_items t (end_marks o) d.1 (end_placed o d.2))))

pub marks_placed : (d : Document) → DocumentRead d → Placed false (marks d)
marks_placed d h = put_items d.items (focus_marks d.focus) h.0 (focus_placed d.focus h.1)

pub placed_read : (b : Bool) (ms : List Mark) → Placed b ms → AreRead ms
placed_read b [] h = tt
placed_read b (m ∷ ms) h = (h.0, placed_read (opens (role_of m.sentence.kind)) ms h.2)
