-- The edits of a document are the edits of its line.
use Rattle.std.proofs.Common.{◌≡◌, ℕ, nat_eq, List, [], ◌∷◌, ◌++◌, map, Bool, true, false, not, if◌then◌else◌, None, suc, refl, sym, ap, subst, ◌∙◌, append_assoc, append-nil}
use Rattle.line_theory.specs.Lists.{has, chosen, last_or}
use Rattle.line_theory.specs.Shapes.{lone, block, closed, proof, last, zone, map_item}
use Rattle.line_theory.specs.Lines as lines
use Rattle.line_theory.specs.Edits as edits
use Rattle.serapi_ans.specs.declared.line.EditLine.TheVariants as told
use Rattle.serapi_ans.specs.declared.line.Exn.TheVariants as exn
use Rattle.doc_theory.specs.Documents.{untold, qed, admitted, defined, abort, Kind, plain, begin, inner, close, Sentence, Entry, delegates, reopens, Item, entries, End, end_entries, Focus, focus_entries, Document, item_marks, end_marks, tip, cursor_in, cursor, set, fall}
use Rattle.doc_theory.specs.Editing.{Split, found, unfound, after, split, Spot, at_lone, at_lemma, at_inner, at_closer, missing, under, inside, locate, Seat, among, open_lemma, open_inner, behind, nowhere, in_inside, in_proof, in_tail, in_focus, seat_or, seat, refocus, only, unclose, reopen, reenter, lessened, shorten, Edited, unknown, refused_by, changed, edit_at, edit, remove_at, remove, outcome_in, outcome, lost, refused, added, fresh, is_full, grown, refolded, attempt_at, attempt}
use Rattle.doc_theory.specs.Line.{line}
use Rattle.serapi_ans.specs.declared.line.Line.TheVariants.{EditAt}
use Rattle.doc_theory.specs.Answers.{Removed, cancel_step, cancel_all}
use Rattle.doc_theory.specs.Invariants.{IfAdded, Sound, FormedFocus}
use Rattle.doc_theory.specs.Shape.{closing, shape_items, shape_end, shape_focus, shape, shape_edited, told_as, CancelsAs, put}
use Rattle.line_theory.proofs.Lists.{test_same, test_equal, test_back}
use Rattle.doc_theory.proofs.Forgotten.{map_join}
use Rattle.doc_theory.proofs.Places.{named, of_items, named_join, named_fall, line_parts, zone_parts, ids_line, ids_items, marks_ids}

-- ---- the flat list

items_shape : (xs : List Item) → lines.items_ids (shape_items xs) ≡ of_items xs
items_shape [] = refl
items_shape (lone e ∷ xs) = ap (λ z. e.id ∷ z) (items_shape xs)
items_shape (block l b c ∷ xs) = ap (λ z. (l.id ∷ (named b ++ (c.id ∷ []))) ++ z) (items_shape xs)
    ∙ ap (λ z. (l.id ∷ z) ++ of_items xs) (sym (named_join b (c ∷ []))) ∙ sym (named_join (l ∷ (b ++ (c ∷ []))) (entries xs))

end_shape : (o : End) → lines.end_ids (shape_end o) ≡ named (end_entries o)
end_shape closed = refl
end_shape (proof l b) = refl

focus_shape : (f : Focus) → lines.front_of (shape_focus f) ++ lines.back_of (shape_focus f) ≡ named (focus_entries f)
focus_shape (last o) = append-nil (lines.end_ids (shape_end o)) ∙ end_shape o
focus_shape (zone l b c t o) = (λ i. (l.id ∷ named b) ++ (c.id ∷ (items_shape t i ++ end_shape o i))) ∙ sym (zone_parts l b c t o)

pub ids_shape : (d : Document) → lines.ids (shape d) ≡ line d
ids_shape d = append_assoc (lines.items_ids (shape_items d.items)) (lines.front_of (shape_focus d.focus))
    (lines.back_of (shape_focus d.focus))
    ∙ (λ i. items_shape d.items i ++ focus_shape d.focus i) ∙ sym (line_parts d.items d.focus)

-- ---- where an id stands

abbrev shape_split : Split → lines.Split
shape_split (found f e k) = lines.found (named f) (named k)
shape_split unfound = lines.unfound

after_shape : (e : Entry) (s : Split) → lines.after e.id (shape_split s) ≡ shape_split (after e s)
after_shape e (found f x k) = refl
after_shape e unfound = refl

split_shape : (i : ℕ) (b : List Entry) → lines.split i (named b) ≡ shape_split (split i b)
split_shape i [] = refl
split_shape i (e ∷ b) = go (nat_eq i e.id) (split_shape i b)
  where
    go : (c : Bool) → lines.split i (named b) ≡ shape_split (split i b)
        → (if c then lines.found [] (named b) else lines.after e.id (lines.split i (named b)))
        ≡ shape_split (if c then found [] e b else after e (split i b))
    go true h = refl
    go false h = ap (lines.after e.id) h ∙ after_shape e (split i b)

abbrev shape_spot : Spot → lines.Spot
shape_spot (at_lone a e t) = lines.at_lone (shape_items a) (shape_items t)
shape_spot (at_lemma a l b c t) = lines.at_lemma (shape_items a) (named b) (closing c) (shape_items t)
shape_spot (at_inner a l f e k c t) = lines.at_inner (shape_items a) l.id (named f) (named k) (closing c) (shape_items t)
shape_spot (at_closer a l b c t) = lines.at_closer (shape_items a) l.id (named b) (closing c) (shape_items t)
shape_spot missing = lines.missing

under_shape : (x : Item) (s : Spot) → lines.under (map_item (λ e. e.id) closing x) (shape_spot s) ≡ shape_spot (under x s)
under_shape x (at_lone a e t) = refl
under_shape x (at_lemma a l b c t) = refl
under_shape x (at_inner a l f e k c t) = refl
under_shape x (at_closer a l b c t) = refl
under_shape x missing = refl

if_shape : (c : Bool) (x y : lines.Spot) (u v : Spot) → x ≡ shape_spot u → y ≡ shape_spot v
    → (if c then x else y) ≡ shape_spot (if c then u else v)
if_shape true x y u v h k = h
if_shape false x y u v h k = k

module _ (i : ℕ) where
  inside_shape : (l : Entry) (b : List Entry) (c : Entry) (t : List Item) (s : Split) (x : lines.Spot) (y : Spot) → x ≡ shape_spot y
      → lines.inside i l.id (named b) (closing c) (shape_items t) (shape_split s) x ≡ shape_spot (inside i l b c t s y)
  inside_shape l b c t (found f e k) x y h = refl
  inside_shape l b c t unfound x y h = if_shape (nat_eq i c.id) _ x (at_closer [] l b c t) y refl h

  locate_shape : (xs : List Item) → lines.locate i (shape_items xs) ≡ shape_spot (locate i xs)
  locate_shape [] = refl
  locate_shape (lone e ∷ t) = if_shape (nat_eq i e.id) _ _ (at_lone [] e t) (under (lone e) (locate i t)) refl
      (ap (lines.under (lone e.id)) (locate_shape t) ∙ under_shape (lone e) (locate i t))
  locate_shape (block l b c ∷ t) = if_shape (nat_eq i l.id) _ _ (at_lemma [] l b c t) _ refl
      (ap (λ s. lines.inside i l.id (named b) (closing c) (shape_items t) s (lines.under (block l.id (named b) (closing c))
      (lines.locate i (shape_items t)))) (split_shape i b)
      ∙ inside_shape l b c t (split i b) _ (under (block l b c) (locate i t))
      (ap (lines.under (block l.id (named b) (closing c))) (locate_shape t) ∙ under_shape (block l b c) (locate i t)))

abbrev shape_seat : Seat → edits.Seat
shape_seat (among s) = edits.among (shape_spot s)
shape_seat (open_lemma l b) = edits.open_lemma l.id (named b)
shape_seat (open_inner l f e k) = edits.open_inner l.id (named f) (named k)
shape_seat (behind c) = edits.behind c.id
shape_seat nowhere = edits.nowhere

in_proof_shape : (i : ℕ) (l : Entry) (b : List Entry) (x : edits.Seat) (y : Seat) → x ≡ shape_seat y
    → edits.in_proof i l.id (named b) x ≡ shape_seat (in_proof i l b y)
in_proof_shape i l b x y h = ap (λ s. if nat_eq i l.id then edits.open_lemma l.id (named b) else edits.in_inside l.id s x) (split_shape i b)
    ∙ go (nat_eq i l.id) (split i b)
  where
    go : (c : Bool) (s : Split)
        → (if c then edits.open_lemma l.id (named b) else edits.in_inside l.id (shape_split s) x)
        ≡ shape_seat (if c then open_lemma l b else in_inside l s y)
    go true s = refl
    go false (found f e k) = refl
    go false unfound = h

tail_ids : (t : List Item) (o : End)
    → lines.items_ids (shape_items t) ++ lines.end_ids (shape_end o) ≡ map (λ m. m.id) (item_marks t ++ end_marks o)
tail_ids t o = (λ i. items_shape t i ++ end_shape o i) ∙ sym (marks_ids t o)

in_tail_shape : (i : ℕ) (c : Entry) (t : List Item) (o : End)
    → edits.in_tail i (closing c) (shape_items t) (shape_end o) ≡ shape_seat (in_tail i c t o)
in_tail_shape i c t o = ap (λ ns. if has i (c.id ∷ ns) then edits.behind c.id else edits.nowhere) (tail_ids t o)
    ∙ go (has i (c.id ∷ map (λ m. m.id) (item_marks t ++ end_marks o)))
  where
    go : (b : Bool) → (if b then edits.behind c.id else edits.nowhere) ≡ shape_seat (if b then behind c else nowhere)
    go true = refl
    go false = refl

in_focus_shape : (i : ℕ) (f : Focus) → edits.in_focus i (shape_focus f) ≡ shape_seat (in_focus i f)
in_focus_shape i (last closed) = refl
in_focus_shape i (last (proof l b)) = in_proof_shape i l b edits.nowhere nowhere refl
in_focus_shape i (zone l b c t o) = in_proof_shape i l b (edits.in_tail i (closing c) (shape_items t) (shape_end o))
    (in_tail i c t o) (in_tail_shape i c t o)

seat_or_shape : (s : Spot) (x : edits.Seat) (y : Seat) → x ≡ shape_seat y → edits.seat_or (shape_spot s) x ≡ shape_seat (seat_or s y)
seat_or_shape (at_lone a e t) x y h = refl
seat_or_shape (at_lemma a l b c t) x y h = refl
seat_or_shape (at_inner a l f e k c t) x y h = refl
seat_or_shape (at_closer a l b c t) x y h = refl
seat_or_shape missing x y h = h

seat_shape : (i : ℕ) (d : Document) → edits.seat i (shape d) ≡ shape_seat (seat i d)
seat_shape i d = ap (λ s. edits.seat_or s (edits.in_focus i (shape_focus d.focus))) (locate_shape i d.items)
    ∙ seat_or_shape (locate i d.items) _ (in_focus i d.focus) (in_focus_shape i d.focus)

-- ---- removing

front_shape : (a : List Item) (l : Entry) (f : List Entry) (r : Bool)
    → edits.line_of (shape_items a) (last (proof l.id (named f))) ≡ edits.line_of (shape_items a) (last (proof l.id (named (fall r f))))
front_shape a l f r = ap (λ z. edits.line_of (shape_items a) (last (proof l.id z))) (sym (named_fall r f))

reenter_shape : (d : Document) (g : Focus) (a : List Item) (l : Entry) (f : List Entry) (c : Entry) (t : List Item)
    → edits.reentered (shape_focus g) (shape_items a) l.id (named f) (closing c) (shape_items t) ≡ shape (reenter g a l f c t d)
reenter_shape d (last o) a l f c t = go (reopens c.sentence.kind)
  where
    go : (r : Bool)
        → (if r then edits.line_of (shape_items a) (zone l.id (named f) (closing c) (shape_items t) (shape_end o))
        else edits.line_of (shape_items a) (last (proof l.id (named f))))
        ≡ shape (if r then reopen a l f c t o d else unclose a l f c d)
    go true = ap (λ z. edits.line_of (shape_items a) (zone l.id z (closing c) (shape_items t) (shape_end o))) (sym (named_fall true f))
    go false = front_shape a l f (delegates c.sentence.kind)
reenter_shape d (zone m b k u o) a l f c t = front_shape a l f (delegates c.sentence.kind)

closing_less : (gone : List Entry) (c : Entry) → closing c ≡ closing (lessened gone c)
closing_less [] c = refl
closing_less (e ∷ gone) c = refl

shorten_shape : (g : Focus) (f gone : List Entry) → edits.shortened (shape_focus g) (named f) ≡ shape_focus (shorten g f gone)
shorten_shape (last closed) f gone = refl
shorten_shape (last (proof l b)) f gone = refl
shorten_shape (zone l b c t o) f gone = ap (λ z. zone l.id (named f) z (shape_items t) (shape_end o)) (closing_less gone c)

remove_at_shape : (s : Seat) (d : Document) → edits.removed_at (shape_seat s) (shape d) ≡ shape_edited (remove_at s d)
remove_at_shape (among (at_lone a e t)) d = refl
remove_at_shape (among (at_lemma a l b c t)) d = refl
remove_at_shape (among (at_inner a l f e k c t)) d = ap edits.changed (reenter_shape d d.focus a l f c t)
remove_at_shape (among (at_closer a l b c t)) d = ap edits.changed (front_shape a l b (delegates c.sentence.kind))
remove_at_shape (among missing) d = refl
remove_at_shape (open_lemma l b) d = refl
remove_at_shape (open_inner l f e k) d = ap (λ z. edits.changed (edits.line_of (shape_items d.items) z)) (shorten_shape d.focus f (e ∷ k))
remove_at_shape (behind c) d = refl
remove_at_shape nowhere d = refl

pub removed_shape : (d : Document) (i : ℕ) → edits.removed i (shape d) ≡ shape_edited (remove d i)
removed_shape d i = ap (λ s. edits.removed_at s (shape d)) (seat_shape i d) ∙ remove_at_shape (seat i d) d

-- ---- what is told of it

pub tip_shape : (d : Document) → lines.tip (shape d) ≡ tip d
tip_shape d = ap (last_or 1) (ids_shape d ∙ sym (ids_line d))

pub lost_shape : (d e : Document) → edits.lost (shape d) (shape e) ≡ lost d e
lost_shape d e = λ i. chosen (λ n. not (has n ((ids_shape e ∙ sym (ids_line e)) i))) ((ids_shape d ∙ sym (ids_line d)) i)

last_join : (n : ℕ) (a b : List ℕ) (x : ℕ) → last_or n (a ++ (x ∷ b)) ≡ last_or x b
last_join n [] b x = refl
last_join n (y ∷ a) b x = last_join y a b x

pub cursor_shape : (d : Document) → lines.cursor (shape d) ≡ cursor d
cursor_shape d = go d.focus
  where
    go : (f : Focus)
        → last_or 1 (lines.items_ids (shape_items d.items) ++ lines.front_of (shape_focus f))
        ≡ cursor_in (last_or 1 (map (λ m. m.id) (item_marks d.items))) f
    go (last closed) = ap (last_or 1) (append-nil (lines.items_ids (shape_items d.items)) ∙ items_shape d.items ∙ sym (ids_items d.items))
    go (last (proof l b)) = last_join 1 (lines.items_ids (shape_items d.items)) (named b) l.id
    go (zone l b c t o) = last_join 1 (lines.items_ids (shape_items d.items)) (named b) l.id

pub outcome_shape : (d : Document) → told_as (edits.outcome (shape d)) ≡ outcome d
outcome_shape d = go d.focus
  where
    go : (f : Focus) → told_as (edits.outcome_in (shape_focus f) (shape d)) ≡ outcome_in f d
    go (last o) = ap told.NewTip (cursor_shape d)
    go (zone l b c t o) = ap (told.Focus l.id c.id) (tip_shape d)

-- ---- Cancel

step_cancels : (tag : List ℕ) (i : ℕ) (d : Document) (x : Edited) (more : Document → Removed) (others : lines.Line → edits.Cancelled)
    → ((e : Document) → CancelsAs tag (more e) (others (shape e)))
    → CancelsAs tag (cancel_step tag i d x more) (edits.cancel_step i (shape d) (shape_edited x) others)
step_cancels tag i d unknown more others h = let k = h d in record {
  line = k.line;
  lines = k.lines;
  gone = k.gone;
  treated =
      ap suc k.treated;
  stop = k.stop;
}
step_cancels tag i d (refused_by c) more others h = record { line = refl; lines = refl; gone = refl; treated = refl; stop = refl }
step_cancels tag i d (changed e) more others h = let k = h e in record {
  line = k.line;
  lines = λ j. EditAt tag (sym (outcome_shape e) j) ∷ k.lines j;
  gone = λ j. sym (lost_shape d e) j ++ k.gone j;
  treated = ap suc k.treated;
  stop = k.stop;
}

pub cancels_shape : (tag : List ℕ) (is : List ℕ) (d : Document) → CancelsAs tag (cancel_all tag is d) (edits.cancelled is (shape d))
cancels_shape tag [] d = record { line = refl; lines = refl; gone = refl; treated = refl; stop = refl }
cancels_shape tag (i ∷ is) d = subst (λ x. CancelsAs tag (cancel_step tag i d (remove d i) (cancel_all tag is))
    (edits.cancel_step i (shape d) x (edits.cancelled is))) (sym (removed_shape d i))
    (step_cancels tag i d (remove d i) (cancel_all tag is) (edits.cancelled is) (cancels_shape tag is))

-- ---- adding

more_items : (a b : List Item) → shape_items (a ++ b) ≡ shape_items a ++ shape_items b
more_items a b = map_join (map_item (λ e. e.id) closing) a b

if_grown : (d : Document) (p : ℕ) (a : List Item) (f : Focus) (n : lines.Line) → edits.line_of (shape_items a) (shape_focus f) ≡ n
    → IfAdded (λ e. shape e ≡ n) (grown d p a f)
if_grown d p a f n h = go (is_full d)
  where
    go : (b : Bool)
        → IfAdded (λ e. shape e ≡ n) (if b then refused (exn.TooMany p)
        else added (record { items = a; focus = f; next = suc d.next; limit = d.limit }) d.next None)
    go true = tt
    go false = h

put_in : (d : Document) (g : Focus) → d.focus ≡ g → (k : Kind) (n : lines.Line)
    → put k d.next (edits.line_of (shape_items d.items) (shape_focus g)) ≡ n → put k d.next (shape d) ≡ n
put_in d g e k n h = ap (λ z. put k d.next (edits.line_of (shape_items d.items) (shape_focus z))) e ∙ h

module _ (d : Document) (x : Sentence) where
  fold_shape : (l : Entry) (b : List Entry) (c : Entry) (t : List Item) (o : End) → reopens x.kind ≡ true
      → reopens c.sentence.kind ≡ true
      → shape (refolded d x l b c t o) ≡ lines.refolded (edits.line_of (shape_items d.items) (shape_focus (zone l b c t o)))
  fold_shape l b c t o h r = ap (λ z. edits.line_of z (last (shape_end o)))
      (more_items d.items (block l (fall true b) (untold c.id x) ∷ t))
      ∙ (λ i. edits.line_of (shape_items d.items
      ++ (block l.id (named_fall true b i) (record { id = c.id; opaque = (h ∙ sym r) i }) ∷ shape_items t)) (last (shape_end o)))

  attempt_at_shape : (p : ℕ) (k : Kind) (f : Focus) → x.kind ≡ k → d.focus ≡ f → FormedFocus f
      → IfAdded (λ e. shape e ≡ put k d.next (shape d)) (attempt_at d p x k f)
  attempt_at_shape p plain (last closed) q e h = if_grown d p (d.items ++ lone (fresh d x) ∷ []) (last closed) _
      (ap (λ z. edits.line_of z (last closed)) (more_items d.items (lone (fresh d x) ∷ [])) ∙ sym (put_in d (last closed) e plain _ refl))
  attempt_at_shape p plain (last (proof l b)) q e h = tt
  attempt_at_shape p plain (zone l b c t o) q e h = tt
  attempt_at_shape p begin (last closed) q e h = if_grown d p d.items (last (proof (fresh d x) [])) _ refl
  attempt_at_shape p begin (last (proof l b)) q e h = tt
  attempt_at_shape p begin (zone l b c t o) q e h = tt
  attempt_at_shape p inner (last closed) q e h = tt
  attempt_at_shape p inner (last (proof l b)) q e h = if_grown d p d.items (last (proof l (b ++ fresh d x ∷ []))) _
      (ap (λ z. edits.line_of (shape_items d.items) (last (proof l.id z))) (named_join b (fresh d x ∷ [])) ∙
      sym (put_in d (last (proof l b)) e inner _ refl))
  attempt_at_shape p inner (zone l b c t o) q e h = if_grown d p d.items (zone l (b ++ fresh d x ∷ []) (set (λ u. false) c) t o) _
      (ap (λ z. edits.line_of (shape_items d.items) (zone l.id z (closing c) (shape_items t) (shape_end o)))
      (named_join b (fresh d x ∷ [])) ∙ sym (put_in d (zone l b c t o) e inner _ refl))
  attempt_at_shape p (close k) (last closed) q e h = tt
  attempt_at_shape p (close k) (last (proof l b)) q e h =
      if_grown d p (d.items ++ block l (fall (delegates x.kind) b) (fresh d x) ∷ []) (last closed) _
      (ap (λ z. edits.line_of z (last closed)) (more_items d.items (block l (fall (delegates x.kind) b) (fresh d x) ∷ []))
      ∙ (λ i. edits.line_of (shape_items d.items ++ (block l.id (named_fall (delegates x.kind) b i)
      (record { id = d.next; opaque = reopens (q i) }) ∷ [])) (last closed))
      ∙ sym (put_in d (last (proof l b)) e (close k) _ refl))
  attempt_at_shape p (close qed) (zone l b c t o) q e h = fold_shape l b c t o (ap reopens q) h.1.0
      ∙ sym (put_in d (zone l b c t o) e (close qed) _ refl)
  attempt_at_shape p (close admitted) (zone l b c t o) q e h = fold_shape l b c t o (ap reopens q) h.1.0
      ∙ sym (put_in d (zone l b c t o) e (close admitted) _ refl)
  attempt_at_shape p (close defined) (zone l b c t o) q e h = tt
  attempt_at_shape p (close abort) (zone l b c t o) q e h = tt

pub attempt_shape : (d : Document) (p : ℕ) (x : Sentence) → Sound d → IfAdded (λ e. shape e ≡ put x.kind d.next (shape d)) (attempt d p x)
attempt_shape d p x s = attempt_at_shape d x p x.kind d.focus refl refl s.focus

-- ---- edit

-- the entry that was found has the id
abbrev SplitAt : ℕ → Split → Type 0
SplitAt i (found f e k) = i ≡ e.id
SplitAt i unfound = Unit {0}

abbrev SpotAt : ℕ → Spot → Type 0
SpotAt i (at_lone a e t) = i ≡ e.id
SpotAt i (at_lemma a l b c t) = i ≡ l.id
SpotAt i (at_inner a l f e k c t) = i ≡ e.id
SpotAt i (at_closer a l b c t) = Unit {0}
SpotAt i missing = Unit {0}

module _ (i : ℕ) where
  after_at : (x : Entry) (s : Split) → SplitAt i s → SplitAt i (after x s)
  after_at x (found f e k) h = h
  after_at x unfound h = h

  split_at : (b : List Entry) → SplitAt i (split i b)
  split_at [] = tt
  split_at (e ∷ b) = go (nat_eq i e.id) refl (after_at e (split i b) (split_at b))
    where
      go : (c : Bool) → nat_eq i e.id ≡ c → SplitAt i (after e (split i b))
          → SplitAt i (if c then found [] e b else after e (split i b))
      go true q h = test_equal i e.id q
      go false q h = h

  under_at : (x : Item) (s : Spot) → SpotAt i s → SpotAt i (under x s)
  under_at x (at_lone a e t) h = h
  under_at x (at_lemma a l b c t) h = h
  under_at x (at_inner a l f e k c t) h = h
  under_at x (at_closer a l b c t) h = h
  under_at x missing h = h

  if_at : (c : Bool) (x y : Spot) → (c ≡ true → SpotAt i x) → SpotAt i y → SpotAt i (if c then x else y)
  if_at true x y h k = h refl
  if_at false x y h k = k

  inside_at : (l : Entry) (b : List Entry) (c : Entry) (t : List Item) (s : Split) (x : Spot) → SplitAt i s → SpotAt i x
      → SpotAt i (inside i l b c t s x)
  inside_at l b c t (found f e k) x h u = h
  inside_at l b c t unfound x h k = if_at (nat_eq i c.id) (at_closer [] l b c t) x (λ q. tt) k

  locate_at : (xs : List Item) → SpotAt i (locate i xs)
  locate_at [] = tt
  locate_at (lone e ∷ t) = if_at (nat_eq i e.id) (at_lone [] e t) _ (λ q. test_equal i e.id q)
      (under_at (lone e) (locate i t) (locate_at t))
  locate_at (block l b c ∷ t) = if_at (nat_eq i l.id) (at_lemma [] l b c t) _ (λ q. test_equal i l.id q)
      (inside_at l b c t (split i b) _ (split_at b) (under_at (block l b c) (locate i t) (locate_at t)))

module _ (i : ℕ) (d : Document) (s : Spot) where
  -- what is dropped, and where a zone is opened, at the place that was found
  dropped_to : nat_eq i 1 ≡ false → locate i d.items ≡ s
      → lines.dropped i (shape d) ≡ lines.dropped_at i (shape_spot s) (shape d)
  dropped_to n q = ap (λ z. if z then lines.empty else lines.dropped_at i (lines.locate i (shape_items d.items)) (shape d)) n
      ∙ ap (λ z. lines.dropped_at i z (shape d)) (locate_shape i d.items ∙ ap shape_spot q)

  zoned_to : (o : End) → d.focus ≡ last o → locate i d.items ≡ s
      → lines.zoned i (shape d) ≡ lines.zoned_at i (shape_spot s) (shape d) (shape_end o)
  zoned_to o e q = ap (λ z. lines.zoned_in i (shape d) (shape_focus z)) e
      ∙ ap (λ z. lines.zoned_at i z (shape d) (shape_end o)) (locate_shape i d.items ∙ ap shape_spot q)

  -- at the lemma or inside of a closed block the edit is that of its front
  block_edit : (a : List Item) (l : Entry) (f : List Entry) (c : Entry) (t : List Item)
      → edits.takes_zone (shape_spot s) ≡ reopens c.sentence.kind
      → lines.dropped i (shape d) ≡ edits.line_of (shape_items a) (last (proof l.id (named f)))
      → ((o : End) → d.focus ≡ last o
      → lines.zoned i (shape d) ≡ edits.line_of (shape_items a) (zone l.id (named f) (closing c) (shape_items t) (shape_end o)))
      → edits.changed (edits.edited_among i (shape_spot s) (shape d) (shape_focus d.focus))
      ≡ edits.changed (shape (reenter d.focus a l f c t d))
  block_edit a l f c t w p z = ap edits.changed (go d.focus refl ∙ reenter_shape d d.focus a l f c t)
    where
      go : (g : Focus) → d.focus ≡ g
          → edits.edited_among i (shape_spot s) (shape d) (shape_focus g)
          ≡ edits.reentered (shape_focus g) (shape_items a) l.id (named f) (closing c) (shape_items t)
      go (last o) e = λ j. if w j then z o e j else p j
      go (zone m b k u o) e = p

  lone_edit : (n : lines.Line) → edits.takes_zone (shape_spot s) ≡ false
      → lines.dropped i (shape d) ≡ n
      → edits.changed (edits.edited_among i (shape_spot s) (shape d) (shape_focus d.focus)) ≡ edits.changed n
  lone_edit n w p = ap edits.changed (go d.focus)
    where
      go : (g : Focus) → edits.edited_among i (shape_spot s) (shape d) (shape_focus g) ≡ n
      go (last o) = ap (λ z. if z then lines.zoned i (shape d) else lines.dropped i (shape d)) w ∙ p
      go (zone m b k u o) = p

-- in the block that is open at the cursor
open_edit : (i : ℕ) (d : Document) (g : Focus) (f gone : List Entry) → d.focus ≡ g
    → edits.edited_open i (shape d) (shape_focus d.focus)
    ≡ edits.line_of (shape_items d.items) (edits.shortened (shape_focus g) (named f))
    → edits.changed (edits.edited_open i (shape d) (shape_focus d.focus))
    ≡ edits.changed (shape (refocus d.items (shorten d.focus f gone) d))
open_edit i d g f gone e h = ap edits.changed
    (h ∙ ap (λ z. edits.line_of (shape_items d.items) (edits.shortened (shape_focus z) (named f))) (sym e)
    ∙ ap (edits.line_of (shape_items d.items)) (shorten_shape d.focus f gone))

end_open : (i : ℕ) (d : Document) (o : End) → nat_eq i 1 ≡ false → locate i d.items ≡ missing → d.focus ≡ last o
    → edits.edited_open i (shape d) (shape_focus d.focus) ≡ lines.dropped_open i (shape_items d.items) (shape_focus (last o))
end_open i d o n q e = ap (λ z. edits.edited_open i (shape d) (shape_focus z)) e ∙ dropped_to i d missing n q
    ∙ ap (λ z. lines.dropped_open i (shape_items d.items) (shape_focus z)) e

zone_open_at : (i : ℕ) (d : Document) (l : Entry) (b : List Entry) (c : Entry) (t : List Item) (o : End) → d.focus ≡ zone l b c t o
    → edits.edited_open i (shape d) (shape_focus d.focus) ≡ lines.zoned_in i (shape d) (shape_focus (zone l b c t o))
zone_open_at i d l b c t o e = ap (λ z. edits.edited_open i (shape d) (shape_focus z)) e
    ∙ ap (λ z. lines.zoned_in i (shape d) (shape_focus z)) e

focus_edit : (i : ℕ) (d : Document) (g : Focus) → nat_eq i 1 ≡ false → locate i d.items ≡ missing → d.focus ≡ g
    → edits.edited_at i (shape_seat (in_focus i g)) (shape d) ≡ shape_edited (edit_at (in_focus i g) d)
focus_edit i d (last closed) n q e = refl
focus_edit i d (last (proof l b)) n q e = go (nat_eq i l.id) refl (split i b) refl (split_at i b)
  where
    go : (c : Bool) → nat_eq i l.id ≡ c → (s : Split) → split i b ≡ s → SplitAt i s
        → edits.edited_at i (shape_seat (if c then open_lemma l b else in_inside l s nowhere)) (shape d)
        ≡ shape_edited (edit_at (if c then open_lemma l b else in_inside l s nowhere) d)
    go true w s r h = open_edit i d (last (proof l b)) [] b e (end_open i d (proof l b) n q e
        ∙ ap (λ z. if z then edits.line_of (shape_items d.items) (last (proof l.id []))
        else lines.dropped_inside (shape_items d.items) l.id (named b) i (lines.split i (named b))) w)
    go false w (found f x k) r h = open_edit i d (last (proof l b)) (f ++ x ∷ []) k e (end_open i d (proof l b) n q e
        ∙ ap (λ z. if z then edits.line_of (shape_items d.items) (last (proof l.id []))
        else lines.dropped_inside (shape_items d.items) l.id (named b) i (lines.split i (named b))) w
        ∙ ap (lines.dropped_inside (shape_items d.items) l.id (named b) i) (split_shape i b ∙ ap shape_split r)
        ∙ ap (λ z. edits.line_of (shape_items d.items) (last (proof l.id z)))
        (ap (λ z. named f ++ (z ∷ [])) h ∙ sym (named_join f (x ∷ []))))
    go false w unfound r h = refl
focus_edit i d (zone l b c t o) n q e = go (nat_eq i l.id) refl (split i b) refl (split_at i b)
  where
    behind_it : (x : Bool) → edits.edited_at i (shape_seat (if x then behind c else nowhere)) (shape d)
        ≡ shape_edited (edit_at (if x then behind c else nowhere) d)
    behind_it true = refl
    behind_it false = refl

    go : (x : Bool) → nat_eq i l.id ≡ x → (s : Split) → split i b ≡ s → SplitAt i s
        → edits.edited_at i (shape_seat (if x then open_lemma l b else in_inside l s (in_tail i c t o))) (shape d)
        ≡ shape_edited (edit_at (if x then open_lemma l b else in_inside l s (in_tail i c t o)) d)
    go true w s r h = open_edit i d (zone l b c t o) [] b e (zone_open_at i d l b c t o e
        ∙ ap (λ z. if z then edits.line_of (shape_items d.items) (zone l.id [] (closing c) (shape_items t) (shape_end o))
        else lines.zoned_inside (shape_items d.items) l.id (named b) (closing c) (shape_items t) (shape_end o) i
        (lines.split i (named b))) w)
    go false w (found f x k) r h = open_edit i d (zone l b c t o) (f ++ x ∷ []) k e (zone_open_at i d l b c t o e
        ∙ ap (λ z. if z then edits.line_of (shape_items d.items) (zone l.id [] (closing c) (shape_items t) (shape_end o))
        else lines.zoned_inside (shape_items d.items) l.id (named b) (closing c) (shape_items t) (shape_end o) i
        (lines.split i (named b))) w
        ∙ ap (lines.zoned_inside (shape_items d.items) l.id (named b) (closing c) (shape_items t) (shape_end o) i)
        (split_shape i b ∙ ap shape_split r)
        ∙ ap (λ z. edits.line_of (shape_items d.items) (zone l.id z (closing c) (shape_items t) (shape_end o)))
        (ap (λ z. named f ++ (z ∷ [])) h ∙ sym (named_join f (x ∷ []))))
    go false w unfound r h = behind_it (has i (c.id ∷ map (λ m. m.id) (item_marks t ++ end_marks o)))

spot_edit : (i : ℕ) (d : Document) (s : Spot) → nat_eq i 1 ≡ false → locate i d.items ≡ s → SpotAt i s
    → edits.edited_at i (shape_seat (seat_or s (in_focus i d.focus))) (shape d)
    ≡ shape_edited (edit_at (seat_or s (in_focus i d.focus)) d)
spot_edit i d (at_lone a e t) n q h = lone_edit i d (at_lone a e t) _ refl (dropped_to i d (at_lone a e t) n q
    ∙ ap (λ z. edits.line_of (shape_items a ++ (lone z ∷ [])) (last closed)) h
    ∙ ap (λ z. edits.line_of z (last closed)) (sym (more_items a (lone e ∷ []))))
spot_edit i d (at_lemma a l b c t) n q h = block_edit i d (at_lemma a l b c t) a l [] c t refl
    (dropped_to i d (at_lemma a l b c t) n q ∙ ap (λ z. edits.line_of (shape_items a) (last (proof z []))) h)
    (λ o e. zoned_to i d (at_lemma a l b c t) o e q
    ∙ ap (λ z. edits.line_of (shape_items a) (zone z [] (closing c) (shape_items t) (shape_end o))) h)
spot_edit i d (at_inner a l f e k c t) n q h = block_edit i d (at_inner a l f e k c t) a l (f ++ e ∷ []) c t refl
    (dropped_to i d (at_inner a l f e k c t) n q ∙ ap (λ z. edits.line_of (shape_items a) (last (proof l.id z))) front)
    (λ o g. zoned_to i d (at_inner a l f e k c t) o g q
    ∙ ap (λ z. edits.line_of (shape_items a) (zone l.id z (closing c) (shape_items t) (shape_end o))) front)
  where
    front : named f ++ (i ∷ []) ≡ named (f ++ e ∷ [])
    front = ap (λ z. named f ++ (z ∷ [])) h ∙ sym (named_join f (e ∷ []))
spot_edit i d (at_closer a l b c t) n q h = lone_edit i d (at_closer a l b c t) _ refl (dropped_to i d (at_closer a l b c t) n q
    ∙ ap (λ z. edits.line_of z (last closed)) (sym (more_items a (block l b c ∷ []))))
spot_edit i d missing n q h = focus_edit i d d.focus n q refl

test_turn : (m n : ℕ) → nat_eq m n ≡ nat_eq n m
test_turn m n = go (nat_eq m n) refl
  where
    go : (b : Bool) → nat_eq m n ≡ b → b ≡ nat_eq n m
    go true e = sym (ap (λ z. nat_eq n z) (test_equal m n e) ∙ test_same n)
    go false e = sym (test_back m n e)

pub edited_shape : (d : Document) (i : ℕ) → edits.edited i (shape d) ≡ shape_edited (edit d i)
edited_shape d i = go (nat_eq i 1) refl
    ∙ ap (λ c. shape_edited (if c then changed (only [] d) else edit_at (seat i d) d)) (test_turn i 1)
  where
    go : (c : Bool) → nat_eq i 1 ≡ c
        → (if c then edits.changed lines.empty else edits.edited_at i (edits.seat i (shape d)) (shape d))
        ≡ shape_edited (if c then changed (only [] d) else edit_at (seat i d) d)
    go true q = refl
    go false q = ap (λ s. edits.edited_at i s (shape d)) (seat_shape i d)
        ∙ spot_edit i d (locate i d.items) q refl (locate_at i d.items)
