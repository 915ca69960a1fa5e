-- The document as one thread has it: without the flags inside of delegated blocks. What a command sees of it is the same.
use Rattle.std.proofs.Common.{◌≡◌, ℕ, List, [], ◌∷◌, ◌++◌, map, Bool, true, false, refl, sym, ap, ◌∙◌}
use Rattle.line_theory.specs.Lists.{last_or}
use Rattle.line_theory.specs.Shapes.{lone, block, closed, proof, last, zone}
use Rattle.doc_theory.specs.Documents.{
  Entry,
  delegates,
  Item,
  End,
  Focus,
  Document,
  outside,
  body_of,
  mark,
  home,
  marks_of,
  item_marks,
  end_marks,
  focus_marks,
  marks,
  ids,
  tip,
  cursor,
  cursor_in,
  set,
  falls,
  fall,
  flag,
  flag_item,
  flag_end,
  flag_focus,
  telling,
  tell,
  reporting,
  report,
}

abbrev pub forget_item : Item → Item
forget_item (lone e) = lone e
forget_item (block l b c) = block l (fall (delegates c.sentence.kind) b) (set (falls (delegates c.sentence.kind)) c)

abbrev pub forget_focus : Focus → Focus
forget_focus (last o) = last o
forget_focus (zone l b c t o) = zone l b c (map forget_item t) o

-- the flags inside of delegated blocks are all false
abbrev pub forget : Document → Document
forget d = record { items = map forget_item d.items; focus = forget_focus d.focus; next = d.next; limit = d.limit }

pub map_join : {A B : Type 0} (f : A → B) (xs ys : List A) → map f (xs ++ ys) ≡ map f xs ++ map f ys
map_join f [] ys = refl
map_join f (x ∷ xs) ys = ap (λ z. f x ∷ z) (map_join f xs ys)

-- ---- marks

body_marks : (n : ℕ) (f : Bool → Bool) (b : List Entry) → map (mark (body_of n)) (map (set f) b) ≡ map (mark (body_of n)) b
body_marks n f [] = refl
body_marks n f (e ∷ es) = ap (λ z. mark (body_of n) e ∷ z) (body_marks n f es)

marks_of_forget : (x : Item) → marks_of (forget_item x) ≡ marks_of x
marks_of_forget (lone e) = refl
marks_of_forget (block l b c) = go (delegates c.sentence.kind)
  where
    go : (r : Bool) → mark outside l ∷ (map (mark (home r l.id)) (fall r b) ++ (mark (home r l.id) (set (falls r) c) ∷ []))
        ≡ mark outside l ∷ (map (mark (home r l.id)) b ++ (mark (home r l.id) c ∷ []))
    go true = ap (λ z. mark outside l ∷ (z ++ (mark (body_of l.id) c ∷ []))) (body_marks l.id (λ t. false) b)
    go false = refl

pub item_marks_forget : (xs : List Item) → item_marks (map forget_item xs) ≡ item_marks xs
item_marks_forget [] = refl
item_marks_forget (x ∷ xs) = λ i. marks_of_forget x i ++ item_marks_forget xs i

focus_marks_forget : (f : Focus) → focus_marks (forget_focus f) ≡ focus_marks f
focus_marks_forget (last o) = refl
focus_marks_forget (zone l b c t o) = ap (λ z. mark outside l ∷ (map (mark outside) b ++ (mark outside c ∷ (z ++ end_marks o))))
    (item_marks_forget t)

pub marks_forget : (d : Document) → marks (forget d) ≡ marks d
marks_forget d = λ i. item_marks_forget d.items i ++ focus_marks_forget d.focus i

pub ids_forget : (d : Document) → ids (forget d) ≡ ids d
ids_forget d = ap (map (λ m. m.id)) (marks_forget d)

pub tip_forget : (d : Document) → tip (forget d) ≡ tip d
tip_forget d = ap (λ ms. last_or 1 (map (λ m. m.id) ms)) (marks_forget d)

pub cursor_forget : (d : Document) → cursor (forget d) ≡ cursor d
cursor_forget d = ap (λ ms. cursor_in (last_or 1 (map (λ m. m.id) ms)) (forget_focus d.focus)) (item_marks_forget d.items) ∙ go d.focus
  where
    go : (f : Focus)
        → cursor_in (last_or 1 (map (λ m. m.id) (item_marks d.items))) (forget_focus f)
        ≡ cursor_in (last_or 1 (map (λ m. m.id) (item_marks d.items))) f
    go (last closed) = refl
    go (last (proof l b)) = refl
    go (zone l b c t o) = refl

-- ---- flags

pub fall_set : (r : Bool) (b : List Entry) → fall true (fall r b) ≡ fall true b
fall_set true [] = refl
fall_set true (e ∷ es) = ap (λ z. set (λ t. false) e ∷ z) (fall_set true es)
fall_set false b = refl

pub fall_twice : (r : Bool) (b : List Entry) → fall r (fall r b) ≡ fall r b
fall_twice true b = fall_set true b
fall_twice false b = refl

pub fall_fallen : (r : Bool) (b : List Entry) → fall r (fall true b) ≡ fall true b
fall_fallen true b = fall_set true b
fall_fallen false b = refl

-- ---- what an Exec tells

tell_body : (ns : List ℕ) (n : ℕ) (b : List Entry)
    → fall true (map (flag (telling ns) (body_of n)) b) ≡ map (flag (telling ns) (body_of n)) (fall true b)
tell_body ns n [] = refl
tell_body ns n (e ∷ es) = ap (λ z. set (λ t. false) e ∷ z) (tell_body ns n es)

tell_forget_item : (ns : List ℕ) (x : Item) → forget_item (flag_item (telling ns) x) ≡ flag_item (telling ns) (forget_item x)
tell_forget_item ns (lone e) = refl
tell_forget_item ns (block l b c) = go (delegates c.sentence.kind)
  where
    go : (r : Bool)
        → block (flag (telling ns) outside l) (fall r (map (flag (telling ns) (home r l.id)) b))
        (set (falls r) (flag (telling ns) (home r l.id) c))
        ≡ block (flag (telling ns) outside l) (map (flag (telling ns) (home r l.id)) (fall r b))
        (flag (telling ns) (home r l.id) (set (falls r) c))
    go true = ap (λ z. block (flag (telling ns) outside l) z (set (λ t. false) c)) (tell_body ns l.id b)
    go false = refl

tell_forget_items : (ns : List ℕ) (xs : List Item)
    → map forget_item (map (flag_item (telling ns)) xs) ≡ map (flag_item (telling ns)) (map forget_item xs)
tell_forget_items ns [] = refl
tell_forget_items ns (x ∷ xs) = λ i. tell_forget_item ns x i ∷ tell_forget_items ns xs i

tell_forget_focus : (ns : List ℕ) (f : Focus) → forget_focus (flag_focus (telling ns) f) ≡ flag_focus (telling ns) (forget_focus f)
tell_forget_focus ns (last o) = refl
tell_forget_focus ns (zone l b c t o) =
    ap (λ z. zone (flag (telling ns) outside l) (map (flag (telling ns) outside) b) (flag (telling ns) outside c) z
    (flag_end (telling ns) o)) (tell_forget_items ns t)

pub tell_forget : (ns : List ℕ) (d : Document) → tell ns (forget d) ≡ forget (tell ns d)
tell_forget ns d = λ i. record {
  items = sym (tell_forget_items ns d.items) i;
  focus = sym (tell_forget_focus ns d.focus) i;
  next = d.next;
  limit = d.limit;
}

-- ---- what a result tells

report_fall : (n m : ℕ) (b : List Entry) → fall true (map (flag (reporting n) (body_of m)) b) ≡ fall true b
report_fall n m [] = refl
report_fall n m (e ∷ es) = ap (λ z. set (λ t. false) e ∷ z) (report_fall n m es)

report_outside : (n : ℕ) (b : List Entry) → map (flag (reporting n) outside) b ≡ b
report_outside n [] = refl
report_outside n (e ∷ es) = ap (λ z. e ∷ z) (report_outside n es)

report_forget_item : (n : ℕ) (x : Item) → forget_item (flag_item (reporting n) x) ≡ forget_item x
report_forget_item n (lone e) = refl
report_forget_item n (block l b c) = go (delegates c.sentence.kind)
  where
    go : (r : Bool)
        → block l (fall r (map (flag (reporting n) (home r l.id)) b)) (set (falls r) (flag (reporting n) (home r l.id) c))
        ≡ block l (fall r b) (set (falls r) c)
    go true = ap (λ z. block l z (set (λ t. false) c)) (report_fall n l.id b)
    go false = ap (λ z. block l z c) (report_outside n b)

report_forget_items : (n : ℕ) (xs : List Item) → map forget_item (map (flag_item (reporting n)) xs) ≡ map forget_item xs
report_forget_items n [] = refl
report_forget_items n (x ∷ xs) = λ i. report_forget_item n x i ∷ report_forget_items n xs i

report_end : (n : ℕ) (o : End) → flag_end (reporting n) o ≡ o
report_end n closed = refl
report_end n (proof l b) = ap (proof l) (report_outside n b)

report_forget_focus : (n : ℕ) (f : Focus) → forget_focus (flag_focus (reporting n) f) ≡ forget_focus f
report_forget_focus n (last o) = ap last (report_end n o)
report_forget_focus n (zone l b c t o) = λ i. zone l (report_outside n b i) c (report_forget_items n t i) (report_end n o i)

-- a kept result changes nothing of what one thread has
pub report_forget : (n : ℕ) (d : Document) → forget (report n d) ≡ forget d
report_forget n d = λ i. record {
  items = report_forget_items n d.items i;
  focus = report_forget_focus n d.focus i;
  next =
      d.next;
  limit = d.limit;
}
