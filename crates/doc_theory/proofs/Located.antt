-- Where an id stands is seen by one thread too, and removing and adding a sentence gives what one thread has of the result.
use Rattle.std.proofs.Common.{
  ◌≡◌,
  ℕ,
  suc,
  ◌^◌,
  List,
  [],
  ◌∷◌,
  ◌++◌,
  map,
  length,
  Bool,
  true,
  false,
  not,
  nat_lt,
  ◌||◌,
  nat_eq,
  if◌then◌else◌,
  refl,
  sym,
  ap,
  ◌∙◌,
  None,
  Some,
}
use Rattle.serapi_ans.specs.declared.line.Exn.TheVariants as exn
use Rattle.serapi_ans.specs.declared.line.EditLine.TheVariants as told
use Rattle.line_theory.specs.Lists.{has, chosen}
use Rattle.line_theory.specs.Shapes.{lone, block, closed, proof, last, zone}
use Rattle.doc_theory.specs.Documents.{
  untold,
  qed,
  admitted,
  defined,
  abort,
  Kind,
  plain,
  begin,
  inner,
  close,
  Sentence,
  Entry,
  delegates,
  reopens,
  Item,
  End,
  Focus,
  Document,
  item_marks,
  end_marks,
  tip,
  set,
  falls,
  fall,
}
use Rattle.doc_theory.specs.Editing.{
  Split,
  found,
  unfound,
  after,
  split,
  Spot,
  at_lone,
  at_lemma,
  at_inner,
  at_closer,
  missing,
  under,
  inside,
  locate,
  Seat,
  among,
  open_lemma,
  open_inner,
  behind,
  nowhere,
  in_inside,
  in_proof,
  in_tail,
  in_focus,
  seat_or,
  seat,
  refocus,
  unclose,
  reopen,
  reenter,
  shorten,
  Edited,
  unknown,
  refused_by,
  changed,
  remove_at,
  remove,
  outcome_in,
  outcome,
  lost,
  Tried,
  refused,
  added,
  fresh,
  is_full,
  grown,
  refolded,
  rezoned,
  attempt_at,
  attempt,
}
use Rattle.doc_theory.proofs.Forgotten.{
  forget_item,
  forget_focus,
  forget,
  map_join,
  item_marks_forget,
  marks_forget,
  ids_forget,
  tip_forget,
  cursor_forget,
  fall_set,
  fall_twice,
}

-- ---- where an id stands

abbrev pub fall_entry : Bool → Entry → Entry
fall_entry true e = set (λ t. false) e
fall_entry false e = e

abbrev pub fall_split : Bool → Split → Split
fall_split r (found f e k) = found (fall r f) (fall_entry r e) (fall r k)
fall_split r unfound = unfound

split_set : (i : ℕ) (b : List Entry) → split i (fall true b) ≡ fall_split true (split i b)
split_set i [] = refl
split_set i (e ∷ es) = go (nat_eq i e.id) (split i es) (split_set i es)
  where
    step : (s : Split) → after (set (λ t. false) e) (fall_split true s) ≡ fall_split true (after e s)
    step (found f x k) = refl
    step unfound = refl

    go : (c : Bool) (s : Split) → split i (fall true es) ≡ fall_split true s
        → (if c then found [] (set (λ t. false) e) (fall true es) else after (set (λ t. false) e) (split i (fall true es)))
        ≡ fall_split true (if c then found [] e es else after e s)
    go true s h = refl
    go false s h = ap (after (set (λ t. false) e)) h ∙ step s

split_fall : (r : Bool) (i : ℕ) (b : List Entry) → split i (fall r b) ≡ fall_split r (split i b)
split_fall true i b = split_set i b
split_fall false i b = go (split i b)
  where
    go : (s : Split) → s ≡ fall_split false s
    go (found f e k) = refl
    go unfound = refl

abbrev pub forget_spot : Spot → Spot
forget_spot (at_lone a e t) = at_lone (map forget_item a) e (map forget_item t)
forget_spot (at_lemma a l b c t) = at_lemma (map forget_item a) l (fall (delegates c.sentence.kind) b)
    (set (falls (delegates c.sentence.kind)) c) (map forget_item t)
forget_spot (at_inner a l f e k c t) =
    at_inner (map forget_item a) l (fall (delegates c.sentence.kind) f) (fall_entry (delegates c.sentence.kind) e)
    (fall (delegates c.sentence.kind) k)
    (set (falls (delegates c.sentence.kind)) c) (map forget_item t)
forget_spot (at_closer a l b c t) = at_closer (map forget_item a) l (fall (delegates c.sentence.kind) b)
    (set (falls (delegates c.sentence.kind)) c) (map forget_item t)
forget_spot missing = missing

under_forget : (x : Item) (s : Spot) → under (forget_item x) (forget_spot s) ≡ forget_spot (under x s)
under_forget x (at_lone a e t) = refl
under_forget x (at_lemma a l b c t) = refl
under_forget x (at_inner a l f e k c t) = refl
under_forget x (at_closer a l b c t) = refl
under_forget x missing = refl

if_spot : (c : Bool) (x y u v : Spot) → x ≡ forget_spot u → y ≡ forget_spot v → (if c then x else y) ≡ forget_spot (if c then u else v)
if_spot true x y u v h k = h
if_spot false x y u v h k = k

module _ (i : ℕ) where
  inside_forget : (l : Entry) (b : List Entry) (c : Entry) (t : List Item) (s : Split) (x y : Spot) → x ≡ forget_spot y
      → inside i l (fall (delegates c.sentence.kind) b) (set (falls (delegates c.sentence.kind)) c) (map forget_item t)
      (fall_split (delegates c.sentence.kind) s) x
      ≡ forget_spot (inside i l b c t s y)
  inside_forget l b c t (found f e k) x y h = refl
  inside_forget l b c t unfound x y h = if_spot (nat_eq i c.id) _ x (at_closer [] l b c t) y refl h

  locate_forget : (xs : List Item) → locate i (map forget_item xs) ≡ forget_spot (locate i xs)
  locate_forget [] = refl
  locate_forget (lone e ∷ t) = if_spot (nat_eq i e.id) _ _ (at_lone [] e t) (under (lone e) (locate i t)) refl
      (ap (under (lone e)) (locate_forget t) ∙ under_forget (lone e) (locate i t))
  locate_forget (block l b c ∷ t) = if_spot (nat_eq i l.id) _ _ (at_lemma [] l b c t) _ refl
      (ap (λ s. inside i l (fall (delegates c.sentence.kind) b) (set (falls (delegates c.sentence.kind)) c) (map forget_item t) s
      (under (forget_item (block l b c)) (locate i (map forget_item t)))) (split_fall (delegates c.sentence.kind) i b)
      ∙ inside_forget l b c t (split i b) _ (under (block l b c) (locate i t)) (ap (under (forget_item (block l b c)))
      (locate_forget t) ∙ under_forget (block l b c) (locate i t)))

abbrev pub forget_seat : Seat → Seat
forget_seat (among s) = among (forget_spot s)
forget_seat (open_lemma l b) = open_lemma l b
forget_seat (open_inner l f e k) = open_inner l f e k
forget_seat (behind c) = behind c
forget_seat nowhere = nowhere

seat_or_forget : (s : Spot) (x y : Seat) → x ≡ forget_seat y → seat_or (forget_spot s) x ≡ forget_seat (seat_or s y)
seat_or_forget (at_lone a e t) x y h = refl
seat_or_forget (at_lemma a l b c t) x y h = refl
seat_or_forget (at_inner a l f e k c t) x y h = refl
seat_or_forget (at_closer a l b c t) x y h = refl
seat_or_forget missing x y h = h

in_proof_forget : (i : ℕ) (l : Entry) (b : List Entry) (x y : Seat) → x ≡ forget_seat y
    → in_proof i l b x ≡ forget_seat (in_proof i l b y)
in_proof_forget i l b x y h = go (nat_eq i l.id) (split i b)
  where
    go : (c : Bool) (s : Split)
        → (if c then open_lemma l b else in_inside l s x) ≡ forget_seat (if c then open_lemma l b else in_inside l s y)
    go true s = refl
    go false (found f e k) = refl
    go false unfound = h

in_tail_forget : (i : ℕ) (c : Entry) (t : List Item) (o : End) → in_tail i c (map forget_item t) o ≡ forget_seat (in_tail i c t o)
in_tail_forget i c t o = ap (λ ms. if has i (c.id ∷ map (λ m. m.id) (ms ++ end_marks o)) then behind c else nowhere) (item_marks_forget t)
    ∙ go (has i (c.id ∷ map (λ m. m.id) (item_marks t ++ end_marks o)))
  where
    go : (b : Bool) → (if b then behind c else nowhere) ≡ forget_seat (if b then behind c else nowhere)
    go true = refl
    go false = refl

in_focus_forget : (i : ℕ) (f : Focus) → in_focus i (forget_focus f) ≡ forget_seat (in_focus i f)
in_focus_forget i (last closed) = refl
in_focus_forget i (last (proof l b)) = in_proof_forget i l b nowhere nowhere refl
in_focus_forget i (zone l b c t o) = in_proof_forget i l b _ (in_tail i c t o) (in_tail_forget i c t o)

seat_forget : (i : ℕ) (d : Document) → seat i (forget d) ≡ forget_seat (seat i d)
seat_forget i d = ap (λ s. seat_or s (in_focus i (forget_focus d.focus))) (locate_forget i d.items)
    ∙ seat_or_forget (locate i d.items) _ (in_focus i d.focus) (in_focus_forget i d.focus)

-- ---- removing

abbrev pub forget_edited : Edited → Edited
forget_edited unknown = unknown
forget_edited (refused_by k) = refused_by k
forget_edited (changed d) = changed (forget d)

unclose_forget : (a : List Item) (l : Entry) (f : List Entry) (c : Entry) (d : Document)
    → unclose (map forget_item a) l (fall (delegates c.sentence.kind) f) (set (falls (delegates c.sentence.kind)) c) (forget d)
    ≡ forget (unclose a l f c d)
unclose_forget a l f c d = ap (λ b. refocus (map forget_item a) (last (proof l b)) (forget d)) (fall_twice (delegates c.sentence.kind) f)

reopen_forget : (a : List Item) (l : Entry) (f : List Entry) (c : Entry) (t : List Item) (o : End) (d : Document)
    → reopen (map forget_item a) l (fall (delegates c.sentence.kind) f) (set (falls (delegates c.sentence.kind)) c)
    (map forget_item t) o (forget d) ≡ forget (reopen a l f c t o d)
reopen_forget a l f c t o d = ap (λ b. refocus (map forget_item a) (zone l b (set (λ u. false) c) (map forget_item t) o)
    (forget d)) (fall_set (delegates c.sentence.kind) f)

if_forget : (r : Bool) (x y u v : Document) → x ≡ forget u → y ≡ forget v → (if r then x else y) ≡ forget (if r then u else v)
if_forget true x y u v h k = h
if_forget false x y u v h k = k

reenter_forget : (g : Focus) (a : List Item) (l : Entry) (f : List Entry) (c : Entry) (t : List Item) (d : Document)
    → reenter (forget_focus g) (map forget_item a) l (fall (delegates c.sentence.kind) f)
    (set (falls (delegates c.sentence.kind)) c) (map forget_item t) (forget d) ≡ forget (reenter g a l f c t d)
reenter_forget (last o) a l f c t d = if_forget (reopens c.sentence.kind) _ _ (reopen a l f c t o d) (unclose a l f c d)
    (reopen_forget a l f c t o d) (unclose_forget a l f c d)
reenter_forget (zone m b k u o) a l f c t d = unclose_forget a l f c d

shorten_forget : (g : Focus) (f k : List Entry) → shorten (forget_focus g) f k ≡ forget_focus (shorten g f k)
shorten_forget (last closed) f k = refl
shorten_forget (last (proof l b)) f k = refl
shorten_forget (zone l b c t o) f k = refl

remove_at_forget : (s : Seat) (d : Document) → remove_at (forget_seat s) (forget d) ≡ forget_edited (remove_at s d)
remove_at_forget (among (at_lone a e t)) d = refl
remove_at_forget (among (at_lemma a l b c t)) d = refl
remove_at_forget (among (at_inner a l f e k c t)) d = ap changed (reenter_forget d.focus a l f c t d)
remove_at_forget (among (at_closer a l b c t)) d = ap changed (unclose_forget a l b c d)
remove_at_forget (among missing) d = refl
remove_at_forget (open_lemma l b) d = refl
remove_at_forget (open_inner l f e k) d = ap (λ g. changed (refocus (map forget_item d.items) g (forget d)))
    (shorten_forget d.focus f (e ∷ k))
remove_at_forget (behind c) d = refl
remove_at_forget nowhere d = refl

pub remove_forget : (d : Document) (i : ℕ) → remove (forget d) i ≡ forget_edited (remove d i)
remove_forget d i = ap (λ s. remove_at s (forget d)) (seat_forget i d) ∙ remove_at_forget (seat i d) d

pub outcome_forget : (d : Document) → outcome (forget d) ≡ outcome d
outcome_forget d = go d.focus
  where
    go : (f : Focus) → outcome_in (forget_focus f) (forget d) ≡ outcome_in f d
    go (last o) = ap told.NewTip (cursor_forget d)
    go (zone l b c t o) = ap (told.Focus l.id c.id) (tip_forget d)

pub lost_forget : (d e : Document) → lost (forget d) (forget e) ≡ lost d e
lost_forget d e = λ i. chosen (λ n. not (has n (ids_forget e i))) (ids_forget d i)

-- ---- adding

abbrev pub forget_tried : Tried → Tried
forget_tried (refused e) = refused e
forget_tried (added d i t) = added (forget d) i t

grown_forget : (d : Document) (p : ℕ) (a : List Item) (f : Focus)
    → grown (forget d) p (map forget_item a) (forget_focus f) ≡ forget_tried (grown d p a f)
grown_forget d p a f = ap (λ ms. if not (nat_lt (length ms) d.limit) || not (nat_lt d.next (2 ^ 62))
    then refused (exn.TooMany p) else added (record {
      items = map forget_item a;
      focus = forget_focus f;
      next = suc d.next;
      limit = d.limit;
    }) d.next None) (marks_forget d)
    ∙ go (is_full d)
  where
    go : (r : Bool)
        → (if r then refused (exn.TooMany p) else added (record {
          items = map forget_item a;
          focus = forget_focus f;
          next =
              suc d.next;
          limit = d.limit;
        }) d.next None)
        ≡ forget_tried (if r then refused (exn.TooMany p) else added (record {
          items = a;
          focus = f;
          next = suc d.next;
          limit =
              d.limit;
        }) d.next None)
    go true = refl
    go false = refl

closing_forget : (x : Sentence) (l : Entry) (b : List Entry) (i : ℕ)
    → forget_item (block l (fall (delegates x.kind) b) (untold i x)) ≡ block l (fall (delegates x.kind) b) (untold i x)
closing_forget x l b i = go (delegates x.kind)
  where
    go : (r : Bool) → block l (fall r (fall r b)) (set (falls r) (untold i x)) ≡ block l (fall r b) (untold i x)
    go true = ap (λ z. block l z (untold i x)) (fall_set true b)
    go false = refl

folding_forget : (x : Sentence) (l : Entry) (b : List Entry) (i : ℕ)
    → forget_item (block l (fall true b) (untold i x)) ≡ block l (fall true b) (untold i x)
folding_forget x l b i = go (delegates x.kind)
  where
    go : (r : Bool) → block l (fall r (fall true b)) (set (falls r) (untold i x)) ≡ block l (fall true b) (untold i x)
    go true = ap (λ z. block l z (untold i x)) (fall_set true b)
    go false = refl

grown_at : (d : Document) (p : ℕ) (x y : Item) (f : Focus) → forget_item x ≡ y
    → grown (forget d) p (map forget_item d.items ++ y ∷ []) (forget_focus f) ≡ forget_tried (grown d p (d.items ++ x ∷ []) f)
grown_at d p x y f h = ap (λ z. grown (forget d) p (map forget_item d.items ++ z ∷ []) (forget_focus f)) (sym h)
    ∙ ap (λ a. grown (forget d) p a (forget_focus f)) (sym (map_join forget_item d.items (x ∷ [])))
    ∙ grown_forget d p (d.items ++ x ∷ []) f

refolded_forget : (d : Document) (x : Sentence) (l : Entry) (b : List Entry) (c : Entry) (t : List Item) (o : End)
    → refolded (forget d) x l b c (map forget_item t) o ≡ forget (refolded d x l b c t o)
refolded_forget d x l b c t o = ap (λ z. refocus (map forget_item d.items ++ z ∷ map forget_item t) (last o) (forget d))
    (sym (folding_forget x l b c.id))
    ∙ ap (λ a. refocus a (last o) (forget d)) (sym (map_join forget_item d.items (block l (fall true b) (untold c.id x) ∷ t)))

rezoned_forget : (d : Document) (x : Sentence) (l : Entry) (b : List Entry) (c : Entry) (t : List Item) (o : End)
    → rezoned (forget d) x l b c (map forget_item t) o ≡ forget_tried (rezoned d x l b c t o)
rezoned_forget d x l b c t o = ap (λ e. added e c.id (Some (tip e))) (refolded_forget d x l b c t o)
    ∙ ap (λ n. added (forget (refolded d x l b c t o)) c.id (Some n)) (tip_forget (refolded d x l b c t o))

attempt_at_forget : (d : Document) (p : ℕ) (x : Sentence) (k : Kind) (f : Focus)
    → attempt_at (forget d) p x k (forget_focus f) ≡ forget_tried (attempt_at d p x k f)
attempt_at_forget d p x plain (last closed) = grown_at d p (lone (fresh d x)) (lone (fresh d x)) (last closed) refl
attempt_at_forget d p x plain (last (proof l b)) = refl
attempt_at_forget d p x plain (zone l b c t o) = refl
attempt_at_forget d p x begin (last closed) = grown_forget d p d.items (last (proof (fresh d x) []))
attempt_at_forget d p x begin (last (proof l b)) = refl
attempt_at_forget d p x begin (zone l b c t o) = refl
attempt_at_forget d p x inner (last closed) = refl
attempt_at_forget d p x inner (last (proof l b)) = grown_forget d p d.items (last (proof l (b ++ fresh d x ∷ [])))
attempt_at_forget d p x inner (zone l b c t o) = grown_forget d p d.items (zone l (b ++ fresh d x ∷ []) (set (λ u. false) c) t o)
attempt_at_forget d p x (close k) (last closed) = refl
attempt_at_forget d p x (close k) (last (proof l b)) = grown_at d p (block l (fall (delegates x.kind) b) (fresh d x)) _
    (last closed) (closing_forget x l b d.next)
attempt_at_forget d p x (close qed) (zone l b c t o) = rezoned_forget d x l b c t o
attempt_at_forget d p x (close admitted) (zone l b c t o) = rezoned_forget d x l b c t o
attempt_at_forget d p x (close defined) (zone l b c t o) = refl
attempt_at_forget d p x (close abort) (zone l b c t o) = refl

pub attempt_forget : (d : Document) (p : ℕ) (x : Sentence) → attempt (forget d) p x ≡ forget_tried (attempt d p x)
attempt_forget d p x = attempt_at_forget d p x x.kind d.focus
