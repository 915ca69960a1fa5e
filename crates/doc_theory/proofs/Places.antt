-- Each change of a document is one change of its line.
use Rattle.std.proofs.Common.{
  ◌≡◌,
  ℕ,
  suc,
  List,
  [],
  ◌∷◌,
  ◌++◌,
  map,
  Bool,
  true,
  false,
  if◌then◌else◌,
  refl,
  sym,
  ap,
  ◌∙◌,
  append_assoc,
  append-nil,
  None,
}
use Rattle.serapi_ans.specs.declared.line.Exn.TheVariants as exn
use Rattle.line_theory.specs.Shapes.{lone, block, closed, proof, last, zone}
use Rattle.doc_theory.specs.Documents.{
  untold,
  qed,
  admitted,
  defined,
  abort,
  Kind,
  plain,
  begin,
  inner,
  close,
  Sentence,
  Entry,
  delegates,
  reopens,
  Item,
  entries_of,
  entries,
  End,
  end_entries,
  Focus,
  focus_entries,
  Document,
  Home,
  outside,
  home,
  mark,
  marks_of,
  item_marks,
  end_marks,
  focus_marks,
  ids,
  set,
  fall,
  flag,
  flag_item,
  flag_end,
  flag_focus,
  flagged,
}
use Rattle.doc_theory.specs.Editing.{
  Seat,
  among,
  at_lone,
  at_lemma,
  at_inner,
  at_closer,
  missing,
  open_lemma,
  open_inner,
  behind,
  nowhere,
  seat,
  refocus,
  only,
  unclose,
  reopen,
  reenter,
  lessened,
  shorten,
  remove_at,
  remove,
  refused,
  added,
  fresh,
  is_full,
  grown,
  refolded,
  attempt_at,
  attempt,
}
use Rattle.doc_theory.specs.Invariants.{IfChanged}
use Rattle.line_theory.specs.Lists.{IsCut, IsGrown}
use Rattle.doc_theory.specs.Line.{line, IsAddedTo}
use Rattle.doc_theory.proofs.Forgotten.{map_join}
use Rattle.doc_theory.proofs.Removed.{IsFront, IsSeat, seat_is}

abbrev pub named : List Entry → List ℕ
named b = map (λ e. e.id) b

pub named_join : (a b : List Entry) → named (a ++ b) ≡ named a ++ named b
named_join a b = map_join (λ e. e.id) a b

pub named_fall : (r : Bool) (b : List Entry) → named (fall r b) ≡ named b
named_fall false b = refl
named_fall true [] = refl
named_fall true (e ∷ b) = ap (λ z. e.id ∷ z) (named_fall true b)

pub entries_join : (a b : List Item) → entries (a ++ b) ≡ entries a ++ entries b
entries_join [] b = refl
entries_join (x ∷ a) b = ap (λ z. entries_of x ++ z) (entries_join a b) ∙ sym (append_assoc (entries_of x) (entries a) (entries b))

-- ---- the line in parts

abbrev pub of_items : List Item → List ℕ
of_items a = named (entries a)

items_join : (a b : List Item) → of_items (a ++ b) ≡ of_items a ++ of_items b
items_join a b = ap named (entries_join a b) ∙ named_join (entries a) (entries b)

pub line_parts : (a : List Item) (f : Focus) → named (entries a ++ focus_entries f) ≡ of_items a ++ named (focus_entries f)
line_parts a f = named_join (entries a) (focus_entries f)

block_parts : (l : Entry) (b : List Entry) (c : Entry) (t : List Item)
    → of_items (block l b c ∷ t) ≡ (l.id ∷ (named b ++ (c.id ∷ []))) ++ of_items t
block_parts l b c t = named_join (l ∷ (b ++ (c ∷ []))) (entries t) ∙ ap (λ z. (l.id ∷ z) ++ of_items t) (named_join b (c ∷ []))

pub zone_parts : (l : Entry) (b : List Entry) (c : Entry) (t : List Item) (o : End)
    → named (focus_entries (zone l b c t o)) ≡ l.id ∷ (named b ++ (c.id ∷ (of_items t ++ named (end_entries o))))
zone_parts l b c t o = ap (λ z. l.id ∷ z) (named_join b (c ∷ (entries t ++ end_entries o)) ∙ ap (λ z. named b ++ (c.id ∷ z))
    (named_join (entries t) (end_entries o)))

-- ---- equations of lists

cut_end : (A R X : List ℕ) → (A ++ R) ++ X ≡ A ++ ((R ++ X) ++ [])
cut_end A R X = simp (append_assoc, append-nil)

cut_block : (A F K T X : List ℕ) (l c : ℕ)
    → (A ++ ((l ∷ ((F ++ K) ++ (c ∷ []))) ++ T)) ++ X ≡ (A ++ (l ∷ F)) ++ ((K ++ (c ∷ (T ++ X))) ++ [])
cut_block A F K T X l c = simp (append_assoc, append-nil)

cut_inside : (A F K T X : List ℕ) (l c : ℕ) → (A ++ ((l ∷ ((F ++ K) ++ (c ∷ []))) ++ T)) ++ X ≡ (A ++ (l ∷ F)) ++ (K ++ (c ∷ (T ++ X)))
cut_inside A F K T X l c = simp (append_assoc)

cut_open : (A F K X : List ℕ) (l : ℕ) → A ++ (l ∷ ((F ++ K) ++ X)) ≡ (A ++ (l ∷ F)) ++ (K ++ X)
cut_open A F K X l = simp (append_assoc)

put_back : (A F X : List ℕ) (l : ℕ) → A ++ (l ∷ (F ++ X)) ≡ (A ++ (l ∷ F)) ++ X
put_back A F X l = simp (append_assoc)

-- ---- removing

only_cut : (d : Document) (a r : List Item) → d.items ≡ a ++ r → IsCut (line d) (line (only a d))
only_cut d a r e = record {
  front = of_items a;
  gone = of_items r ++ named (focus_entries d.focus);
  back = [];
  was = line_parts d.items d.focus ∙ ap (λ z. z ++ named (focus_entries d.focus)) (ap of_items e ∙ items_join a r)
      ∙ cut_end (of_items a) (of_items r) (named (focus_entries d.focus));
  is = named_join (entries a) [];
}

-- a block of the document, of which a front is to stay
module _ (d : Document) (a t : List Item) (l : Entry) (b f k : List Entry) (c : Entry) (e : d.items ≡ a ++ (block l b c ∷ t))
    (q : b ≡ f ++ k) where
  -- the line with a block that is in two parts
  pub with_block : line d ≡ (of_items a ++ ((l.id ∷ ((named f ++ named k) ++ (c.id ∷ []))) ++ of_items t)) ++ named (focus_entries d.focus)
  with_block = line_parts d.items d.focus ∙ ap (λ z. z ++ named (focus_entries d.focus))
      (ap of_items e ∙ items_join a (block l b c ∷ t) ∙ ap (λ z. of_items a ++ z) (block_parts l b c t ∙
      ap (λ z. (l.id ∷ (z ++ (c.id ∷ []))) ++ of_items t) (ap named q ∙ named_join f k)))

  unclose_cut : IsCut (line d) (line (unclose a l f c d))
  unclose_cut = record {
    front = of_items a ++ (l.id ∷ named f);
    gone = named k ++ (c.id ∷ (of_items t ++ named (focus_entries d.focus)));
    back = [];
    was = with_block
        ∙ cut_block (of_items a) (named f) (named k) (of_items t) (named (focus_entries d.focus)) l.id c.id;
    is = named_join (entries a) (l ∷ fall (delegates c.sentence.kind) f)
        ∙ ap (λ z. of_items a ++ (l.id ∷ z)) (named_fall (delegates c.sentence.kind) f) ∙ sym (append-nil (of_items a ++ (l.id ∷ named f)));
  }

  reopen_cut : (o : End) → d.focus ≡ last o → IsCut (line d) (line (reopen a l f c t o d))
  reopen_cut o g = record {
    front = of_items a ++ (l.id ∷ named f);
    gone = named k;
    back = c.id ∷ (of_items t ++ named (end_entries o));
    was = with_block
        ∙ ap (λ z. (of_items a ++ ((l.id ∷ ((named f ++ named k) ++ (c.id ∷ []))) ++ of_items t)) ++ named (focus_entries z)) g
        ∙ cut_inside (of_items a) (named f) (named k) (of_items t) (named (end_entries o)) l.id c.id;
    is = line_parts a (zone l (fall true f) (set (λ u. false) c) t o)
        ∙ ap (λ z. of_items a ++ z) (zone_parts l (fall true f) (set (λ u. false) c) t o ∙
        ap (λ z. l.id ∷ (z ++ (c.id ∷ (of_items t ++ named (end_entries o))))) (named_fall true f))
        ∙ put_back (of_items a) (named f) (c.id ∷ (of_items t ++ named (end_entries o))) l.id;
  }

  reenter_cut : (g : Focus) → d.focus ≡ g → IsCut (line d) (line (reenter g a l f c t d))
  reenter_cut (last o) g = go (reopens c.sentence.kind)
    where
      go : (r : Bool) → IsCut (line d) (line (if r then reopen a l f c t o d else unclose a l f c d))
      go true = reopen_cut o g
      go false = unclose_cut
  reenter_cut (zone m y x u o) g = unclose_cut

less_id : (k : List Entry) (c : Entry) → (lessened k c).id ≡ c.id
less_id [] c = refl
less_id (e ∷ k) c = refl

shorten_cut : (d : Document) (g : Focus) → d.focus ≡ g → (f k : List Entry) → IsFront g f k
    → IsCut (line d) (line (refocus d.items (shorten g f k) d))
shorten_cut d (last closed) g f k q = record {
  front = line d;
  gone = [];
  back = [];
  was = sym (append-nil (line d));
  is = ap (λ z. named (entries d.items ++ focus_entries z)) (sym g) ∙ sym (append-nil (line d));
}
shorten_cut d (last (proof l b)) g f k q = record {
  front = of_items d.items ++ (l.id ∷ named f);
  gone = named k;
  back = [];
  was = ap (λ z. named (entries d.items ++ focus_entries z)) g ∙ line_parts d.items (last (proof l b))
      ∙ ap (λ z. of_items d.items ++ (l.id ∷ z)) (ap named q ∙ named_join f k ∙ sym (append-nil (named f ++ named k)))
      ∙ cut_open (of_items d.items) (named f) (named k) [] l.id;
  is = line_parts d.items (last (proof l f)) ∙ sym (append-nil (of_items d.items ++ (l.id ∷ named f)));
}
shorten_cut d (zone l b c t o) g f k q = record {
  front = of_items d.items ++ (l.id ∷ named f);
  gone = named k;
  back = c.id ∷ (of_items t ++ named (end_entries o));
  was = ap (λ z. named (entries d.items ++ focus_entries z)) g ∙ line_parts d.items (zone l b c t o)
      ∙ ap (λ z. of_items d.items ++ z) (zone_parts l b c t o ∙
      ap (λ z. l.id ∷ (z ++ (c.id ∷ (of_items t ++ named (end_entries o))))) (ap named q ∙ named_join f k))
      ∙ cut_open (of_items d.items) (named f) (named k) (c.id ∷ (of_items t ++ named (end_entries o))) l.id;
  is = line_parts d.items (zone l f (lessened k c) t o)
      ∙ ap (λ z. of_items d.items ++ z) (zone_parts l f (lessened k c) t o ∙
      ap (λ z. l.id ∷ (named f ++ (z ∷ (of_items t ++ named (end_entries o))))) (less_id k c))
      ∙ put_back (of_items d.items) (named f) (c.id ∷ (of_items t ++ named (end_entries o))) l.id;
}

remove_at_cut : (d : Document) (x : Seat) → IsSeat d.items d.focus x → IfChanged (λ e. IsCut (line d) (line e)) (remove_at x d)
remove_at_cut d (among (at_lone a e t)) h = only_cut d a (lone e ∷ t) h
remove_at_cut d (among (at_lemma a l b c t)) h = only_cut d a (block l b c ∷ t) h
remove_at_cut d (among (at_inner a l f e k c t)) h = reenter_cut d a t l (f ++ (e ∷ k)) f (e ∷ k) c h refl d.focus refl
remove_at_cut d (among (at_closer a l b c t)) h = unclose_cut d a t l b b [] c h (sym (append-nil b))
remove_at_cut d (among missing) h = tt
remove_at_cut d (open_lemma l b) h = only_cut d d.items [] (sym (append-nil d.items))
remove_at_cut d (open_inner l f e k) h = shorten_cut d d.focus refl f (e ∷ k) h
remove_at_cut d (behind c) h = tt
remove_at_cut d nowhere h = tt

pub remove_cut : (d : Document) (i : ℕ) → IfChanged (λ e. IsCut (line d) (line e)) (remove d i)
remove_cut d i = remove_at_cut d (seat i d) (seat_is i d)

-- ---- adding

if_grown : (d : Document) (p : ℕ) (a : List Item) (f : Focus) → IsGrown d.next (line d) (named (entries a ++ focus_entries f))
    → IsAddedTo d (grown d p a f)
if_grown d p a f h = go (is_full d)
  where
    go : (b : Bool)
        → IsAddedTo d (if b then refused (exn.TooMany p) else added (record {
          items = a;
          focus = f;
          next = suc d.next;
          limit =
              d.limit;
        }) d.next None)
    go true = tt
    go false = (h, refl)

-- at the end
at_end : (d : Document) (new : List ℕ) → new ≡ line d ++ (d.next ∷ []) → IsGrown d.next (line d) new
at_end d new e = record { front = line d; back = []; was = sym (append-nil (line d)); is = e }

pub with_focus : (d : Document) (g : Focus) → d.focus ≡ g → line d ≡ of_items d.items ++ named (focus_entries g)
with_focus d g e = ap (λ z. named (entries d.items ++ focus_entries z)) e ∙ line_parts d.items g

grow_lone : (d : Document) (x : Sentence) → d.focus ≡ last closed
    → named (entries (d.items ++ lone (fresh d x) ∷ []) ++ []) ≡ line d ++ (d.next ∷ [])
grow_lone d x g = line_parts (d.items ++ lone (fresh d x) ∷ []) (last closed)
    ∙ ap (λ z. z ++ []) (items_join d.items (lone (fresh d x) ∷ [])) ∙ append-nil (of_items d.items ++ (d.next ∷ []))
    ∙ ap (λ z. z ++ (d.next ∷ [])) (sym (append-nil (of_items d.items)) ∙ sym (with_focus d (last closed) g))

grow_begin : (d : Document) (x : Sentence) → d.focus ≡ last closed → named (entries d.items ++ (fresh d x ∷ [])) ≡ line d ++ (d.next ∷ [])
grow_begin d x g = named_join (entries d.items) (fresh d x ∷ [])
    ∙ ap (λ z. z ++ (d.next ∷ [])) (sym (append-nil (of_items d.items)) ∙ sym (with_focus d (last closed) g))

grow_inner : (d : Document) (x : Sentence) (l : Entry) (b : List Entry) → d.focus ≡ last (proof l b)
    → named (entries d.items ++ (l ∷ (b ++ fresh d x ∷ []))) ≡ line d ++ (d.next ∷ [])
grow_inner d x l b g = named_join (entries d.items) (l ∷ (b ++ fresh d x ∷ []))
    ∙ ap (λ z. of_items d.items ++ (l.id ∷ z)) (named_join b (fresh d x ∷ []))
    ∙ sym (append_assoc (of_items d.items) (l.id ∷ named b) (d.next ∷ []))
    ∙ ap (λ z. z ++ (d.next ∷ [])) (sym (with_focus d (last (proof l b)) g))

grow_close : (d : Document) (x : Sentence) (r : Bool) (l : Entry) (b : List Entry) → d.focus ≡ last (proof l b)
    → named (entries (d.items ++ block l (fall r b) (fresh d x) ∷ []) ++ []) ≡ line d ++ (d.next ∷ [])
grow_close d x r l b g = line_parts (d.items ++ block l (fall r b) (fresh d x) ∷ []) (last closed)
    ∙ append-nil (of_items (d.items ++ block l (fall r b) (fresh d x) ∷ []))
    ∙ items_join d.items (block l (fall r b) (fresh d x) ∷ [])
    ∙ ap (λ z. of_items d.items ++ z) (block_parts l (fall r b) (fresh d x) [] ∙
    append-nil (l.id ∷ (named (fall r b) ++ (d.next ∷ []))) ∙ ap (λ z. l.id ∷ (z ++ (d.next ∷ []))) (named_fall r b))
    ∙ sym (append_assoc (of_items d.items) (l.id ∷ named b) (d.next ∷ []))
    ∙ ap (λ z. z ++ (d.next ∷ [])) (sym (with_focus d (last (proof l b)) g))

grow_zone : (d : Document) (x : Sentence) (l : Entry) (b : List Entry) (c : Entry) (t : List Item) (o : End) → d.focus ≡ zone l b c t o
    → IsGrown d.next (line d) (named (entries d.items ++ focus_entries (zone l (b ++ fresh d x ∷ []) (set (λ u. false) c) t o)))
grow_zone d x l b c t o g = record {
  front = of_items d.items ++ (l.id ∷ named b);
  back = c.id ∷ (of_items t ++ named (end_entries o));
  was = with_focus d (zone l b c t o) g ∙ ap (λ z. of_items d.items ++ z) (zone_parts l b c t o)
      ∙ put_back (of_items d.items) (named b) (c.id ∷ (of_items t ++ named (end_entries o))) l.id;
  is = line_parts d.items (zone l (b ++ fresh d x ∷ []) (set (λ u. false) c) t o)
      ∙ ap (λ z. of_items d.items ++ z) (zone_parts l (b ++ fresh d x ∷ []) (set (λ u. false) c) t o ∙
      ap (λ z. l.id ∷ (z ++ (c.id ∷ (of_items t ++ named (end_entries o))))) (named_join b (fresh d x ∷ [])))
      ∙ cut_open (of_items d.items) (named b) (d.next ∷ []) (c.id ∷ (of_items t ++ named (end_entries o))) l.id;
}

fold_line : (d : Document) (x : Sentence) (l : Entry) (b : List Entry) (c : Entry) (t : List Item) (o : End) → d.focus ≡ zone l b c t o
    → line (refolded d x l b c t o) ≡ line d
fold_line d x l b c t o g = line_parts (d.items ++ block l (fall true b) (untold c.id x) ∷ t) (last o)
    ∙ ap (λ z. z ++ named (end_entries o)) (items_join d.items (block l (fall true b) (untold c.id x) ∷ t)
    ∙ ap (λ z. of_items d.items ++ z) (block_parts l (fall true b) (untold c.id x) t ∙
    ap (λ z. (l.id ∷ (z ++ (c.id ∷ []))) ++ of_items t) (named_fall true b)))
    ∙ same (of_items d.items) (named b) (of_items t) (named (end_entries o)) l.id c.id
    ∙ ap (λ z. of_items d.items ++ z) (sym (zone_parts l b c t o)) ∙ sym (with_focus d (zone l b c t o) g)
  where
    same : (A B T X : List ℕ) (m n : ℕ) → (A ++ ((m ∷ (B ++ (n ∷ []))) ++ T)) ++ X ≡ A ++ (m ∷ (B ++ (n ∷ (T ++ X))))
    same A B T X m n = simp (append_assoc)

attempt_at_line : (d : Document) (p : ℕ) (x : Sentence) (k : Kind) (f : Focus) → d.focus ≡ f → IsAddedTo d (attempt_at d p x k f)
attempt_at_line d p x plain (last closed) g = if_grown d p (d.items ++ lone (fresh d x) ∷ []) (last closed) (at_end d _ (grow_lone d x g))
attempt_at_line d p x plain (last (proof l b)) g = tt
attempt_at_line d p x plain (zone l b c t o) g = tt
attempt_at_line d p x begin (last closed) g = if_grown d p d.items (last (proof (fresh d x) [])) (at_end d _ (grow_begin d x g))
attempt_at_line d p x begin (last (proof l b)) g = tt
attempt_at_line d p x begin (zone l b c t o) g = tt
attempt_at_line d p x inner (last closed) g = tt
attempt_at_line d p x inner (last (proof l b)) g = if_grown d p d.items (last (proof l (b ++ fresh d x ∷ [])))
    (at_end d _ (grow_inner d x l b g))
attempt_at_line d p x inner (zone l b c t o) g = if_grown d p d.items (zone l (b ++ fresh d x ∷ []) (set (λ u. false) c) t o)
    (grow_zone d x l b c t o g)
attempt_at_line d p x (close k) (last closed) g = tt
attempt_at_line d p x (close k) (last (proof l b)) g = if_grown d p (d.items ++ block l (fall (delegates x.kind) b) (fresh d x)
    ∷ []) (last closed) (at_end d _ (grow_close d x (delegates x.kind) l b g))
attempt_at_line d p x (close qed) (zone l b c t o) g = fold_line d x l b c t o g
attempt_at_line d p x (close admitted) (zone l b c t o) g = fold_line d x l b c t o g
attempt_at_line d p x (close defined) (zone l b c t o) g = tt
attempt_at_line d p x (close abort) (zone l b c t o) g = tt

pub attempt_line : (d : Document) (p : ℕ) (x : Sentence) → IsAddedTo d (attempt d p x)
attempt_line d p x = attempt_at_line d p x x.kind d.focus refl

-- ---- the line by marks

marked : (h : Home) (b : List Entry) → map (λ m. m.id) (map (mark h) b) ≡ named b
marked h [] = refl
marked h (e ∷ b) = ap (λ z. e.id ∷ z) (marked h b)

ids_item : (x : Item) → map (λ m. m.id) (marks_of x) ≡ named (entries_of x)
ids_item (lone e) = refl
ids_item (block l b c) = go (home (delegates c.sentence.kind) l.id)
  where
    go : (h : Home) → map (λ m. m.id) (mark outside l ∷ (map (mark h) b ++ (mark h c ∷ []))) ≡ named (l ∷ (b ++ (c ∷ [])))
    go h = ap (λ z. l.id ∷ map (λ m. m.id) z) (sym (map_join (mark h) b (c ∷ []))) ∙ ap (λ z. l.id ∷ z) (marked h (b ++ (c ∷ [])))

pub ids_items : (xs : List Item) → map (λ m. m.id) (item_marks xs) ≡ of_items xs
ids_items [] = refl
ids_items (x ∷ xs) = map_join (λ m. m.id) (marks_of x) (item_marks xs) ∙ (λ i. ids_item x i ++ ids_items xs i)
    ∙ sym (named_join (entries_of x) (entries xs))

ids_end : (o : End) → map (λ m. m.id) (end_marks o) ≡ named (end_entries o)
ids_end closed = refl
ids_end (proof l b) = ap (λ z. l.id ∷ z) (marked outside b)

pub marks_ids : (t : List Item) (o : End) → map (λ m. m.id) (item_marks t ++ end_marks o) ≡ of_items t ++ named (end_entries o)
marks_ids t o = map_join (λ m. m.id) (item_marks t) (end_marks o) ∙ (λ i. ids_items t i ++ ids_end o i)

ids_focus : (f : Focus) → map (λ m. m.id) (focus_marks f) ≡ named (focus_entries f)
ids_focus (last o) = ids_end o
ids_focus (zone l b c t o) = ap (λ z. l.id ∷ z) (map_join (λ m. m.id) (map (mark outside) b)
    (mark outside c ∷ (item_marks t ++ end_marks o))
    ∙ (λ i. marked outside b i ++ (c.id ∷ (map_join (λ m. m.id) (item_marks t) (end_marks o) ∙ (λ j. ids_items t j ++ ids_end o j)) i)))
    ∙ sym (zone_parts l b c t o)

pub ids_line : (d : Document) → ids d ≡ line d
ids_line d = map_join (λ m. m.id) (item_marks d.items) (focus_marks d.focus) ∙ (λ i. ids_items d.items i ++ ids_focus d.focus i)
    ∙ sym (line_parts d.items d.focus)

-- ---- flags

flag_named : (rule : Home → ℕ → Bool → Bool) (h : Home) (b : List Entry) → named (map (flag rule h) b) ≡ named b
flag_named rule h [] = refl
flag_named rule h (e ∷ b) = ap (λ z. e.id ∷ z) (flag_named rule h b)

flag_of_item : (rule : Home → ℕ → Bool → Bool) (x : Item) → named (entries_of (flag_item rule x)) ≡ named (entries_of x)
flag_of_item rule (lone e) = refl
flag_of_item rule (block l b c) = ap (λ z. l.id ∷ z) (named_join (map (flag rule (home (delegates c.sentence.kind) l.id)) b)
    (flag rule (home (delegates c.sentence.kind) l.id) c ∷ [])
    ∙ ap (λ z. z ++ (c.id ∷ [])) (flag_named rule (home (delegates c.sentence.kind) l.id) b) ∙ sym (named_join b (c ∷ [])))

flag_of_items : (rule : Home → ℕ → Bool → Bool) (xs : List Item) → of_items (map (flag_item rule) xs) ≡ of_items xs
flag_of_items rule [] = refl
flag_of_items rule (x ∷ xs) = named_join (entries_of (flag_item rule x)) (entries (map (flag_item rule) xs))
    ∙ (λ i. flag_of_item rule x i ++ flag_of_items rule xs i) ∙ sym (named_join (entries_of x) (entries xs))

flag_of_end : (rule : Home → ℕ → Bool → Bool) (o : End) → named (end_entries (flag_end rule o)) ≡ named (end_entries o)
flag_of_end rule closed = refl
flag_of_end rule (proof l b) = ap (λ z. l.id ∷ z) (flag_named rule outside b)

flag_of_focus : (rule : Home → ℕ → Bool → Bool) (f : Focus) → named (focus_entries (flag_focus rule f)) ≡ named (focus_entries f)
flag_of_focus rule (last o) = flag_of_end rule o
flag_of_focus rule (zone l b c t o) = zone_parts (flag rule outside l) (map (flag rule outside) b) (flag rule outside c)
    (map (flag_item rule) t) (flag_end rule o)
    ∙ (λ i. l.id ∷ (flag_named rule outside b i ++ (c.id ∷ (flag_of_items rule t i ++ flag_of_end rule o i))))
    ∙ sym (zone_parts l b c t o)

pub line_flagged : (rule : Home → ℕ → Bool → Bool) (d : Document) → line (flagged rule d) ≡ line d
line_flagged rule d = line_parts (map (flag_item rule) d.items) (flag_focus rule d.focus)
    ∙ (λ i. flag_of_items rule d.items i ++ flag_of_focus rule d.focus i) ∙ sym (line_parts d.items d.focus)
