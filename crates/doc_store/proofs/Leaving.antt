-- A removal leaves a store whose document is the one behind it.
use Rattle.std.proofs.Common.{◌≡◌, ◌⊎◌, inl, inr, ℕ, nat_eq, ◌||◌, not, if◌then◌else◌, List, [], ◌∷◌, ◌++◌, length, take, drop, ◌-◌, ◌+◌, length-append, arith, Bool, true, false, Option, Some, None, option_map, is_some, refl, sym, ap, ◌∙◌, subst}
use Rattle.line_theory.specs.Lists.{has, Every, missing_in, IsCut}
use Rattle.line_theory.specs.Shapes.{last, zone}
use Rattle.line_theory.specs.Lines as lines
use Rattle.line_theory.specs.Lines.{Line}
use Rattle.line_theory.specs.Edits as edits
use Rattle.line_theory.proofs.Lists.{no, test_equal, has_left, has_right, has_parts}
use Rattle.edit_core.specs.Told.{told_outcome, line_after}
use Rattle.edit_core.specs.Cancels.{as_removal}
use Rattle.edit_core.specs.declared.removal.Removal.{Removal}
use Rattle.edit_core.specs.declared.removal.Removal.TheVariants as removal
use Rattle.edit_core.specs.declared.edit.Edited.{Edited as Told}
use Rattle.doc_theory.specs.Lists.{Member}
use Rattle.doc_theory.specs.Documents.{Entry, Item, Focus, Document, entries, end_entries, focus_entries, live, set}
use Rattle.doc_theory.specs.Editing.{remove, Edited, unknown, refused_by, changed, outcome, lost}
use Rattle.doc_theory.specs.Line.{line, HasIds}
use Rattle.doc_theory.specs.Shape.{shape, shape_focus, shape_edited, told_as}
use Rattle.doc_theory.specs.Invariants.{IfChanged}
use Rattle.doc_theory.proofs.Places.{named, named_join, remove_cut}
use Rattle.doc_theory.proofs.Removed.{Keeps, remove_keeps}
use Rattle.check_theory.specs.Language.{language}
use Rattle.check_theory.proofs.Lawful.{language_lawful}
use Rattle.doc_store.specs.declared.slots.Slot.{Slot}
use Rattle.doc_store.specs.Slots.{entry_of, entry_at, slot_at, text_of, text_at, lowered}
use Rattle.doc_store.specs.Cases.{stops_in, lower_if, left_at}
use Rattle.doc_store.specs.Stored.{filled, document_of, notes_by, IsQuiet, IsKept, Fewer, line_of, IsRemoval}
use Rattle.doc_store.proofs.Filled.{Agrees, filled_is, agrees_filled}
use Rattle.doc_store.proofs.Apart.{within, here, there}
use Rattle.doc_store.proofs.Quiet.{remove_quiet}
use Rattle.doc_store.proofs.Numbered.{SameNumbers, remove_numbers, remove_ids}
use Rattle.doc_store.proofs.Kept.{TellsLess, fewer}
use Rattle.doc_store.proofs.Removing.{Half, remove_half, stops_of, Leaves, leaves_agree}

-- ---- lists

-- what is in the new list isn't among what is missing in it
pub missing_not : (new old : List ℕ) (n : ℕ) → has n new ≡ true → has n (missing_in new old) ≡ false
missing_not new [] n h = refl
missing_not new (x ∷ xs) n h = go (has x new) refl (missing_not new xs n h)
  where
    differs : has x new ≡ false → (b : Bool) → nat_eq n x ≡ b → b ≡ false
    differs e true k = no (sym e ∙ ap (λ z. has z new) (sym (test_equal n x k)) ∙ h)
    differs e false k = refl

    go : (b : Bool) → has x new ≡ b → has n (missing_in new xs) ≡ false
        → has n (if not b then x ∷ missing_in new xs else missing_in new xs) ≡ false
    go true e m = m
    go false e m = λ i. differs e (nat_eq n x) refl i || m i

pub every_has : (P : ℕ → Type 0) (xs : List ℕ) → ((n : ℕ) → has n xs ≡ true → P n) → Every P xs
every_has P [] h = tt
every_has P (x ∷ xs) h = (h x (here x xs), every_has P xs (λ n m. h n (there n x xs m)))

-- what a cut leaves was there
pub cut_has : (old new : List ℕ) → IsCut old new → (n : ℕ) → has n new ≡ true → has n old ≡ true
cut_has old new c n h = subst (λ z. has n z ≡ true) (sym c.was) (go (has_parts n c.front c.back (subst (λ z. has n z ≡ true) c.is h)))
  where
    go : (has n c.front ≡ true) ⊎ (has n c.back ≡ true) → has n (c.front ++ (c.gone ++ c.back)) ≡ true
    go (inl k) = has_left n c.front (c.gone ++ c.back) k
    go (inr k) = has_right n c.front (c.gone ++ c.back) (has_right n c.gone c.back k)

drop_front : (a b : List ℕ) → drop (length a) (a ++ b) ≡ b
drop_front [] b = refl
drop_front (x ∷ a) b = drop_front a b

take_whole : (b : List ℕ) → take (length b) b ≡ b
take_whole [] = refl
take_whole (x ∷ b) = ap (λ z. x ∷ z) (take_whole b)

less_front : (a b : List ℕ) → length (a ++ b) - length a ≡ length b
less_front a b = let e : length (a ++ b) ≡ length a + length b = length-append a b in omega (arith, e)

-- what was put behind a list, cut from it
pub slice_behind : (a b c : List ℕ) (n : ℕ) → n ≡ length a → c ≡ a ++ b → take (length c - n) (drop n c) ≡ b
slice_behind a b c n e q = (λ i. take (length (q i) - e i) (drop (e i) (q i)))
    ∙ (λ i. take (less_front a b i) (drop_front a b i)) ∙ take_whole b

-- ---- the kept closer

stops_shape : (f : Focus) → stops_in (shape_focus f) ≡ stops_of f
stops_shape (last o) = refl
stops_shape (zone l b c t o) = refl

stop_live : (a : List Item) (f : Focus) (n : ℕ) → has n (stops_of f) ≡ true → has n (named (entries a ++ focus_entries f)) ≡ true
stop_live a (last o) n h = no h
stop_live a (zone l b c t o) n h =
    let tail : List Entry = entries t ++ end_entries o in
    let at_closer_or_behind : has n (c.id ∷ named tail) ≡ true = has_left n (c.id ∷ []) (named tail) h in
    let in_block : has n (named b ++ (c.id ∷ named tail)) ≡ true = has_right n (named b) (c.id ∷ named tail) at_closer_or_behind in
    let in_zone : has n (l.id ∷ (named b ++ (c.id ∷ named tail))) ≡ true =
    has_right n (l.id ∷ []) (named b ++ (c.id ∷ named tail)) in_block in
    let split : named (entries a ++ focus_entries (zone l b c t o)) ≡ named (entries a) ++ (l.id ∷ (named b ++ (c.id ∷ named tail))) =
    named_join (entries a) (focus_entries (zone l b c t o)) ∙ ap (λ z. named (entries a) ++ (l.id ∷ z)) (named_join b (c ∷ tail)) in
    subst (λ z. has n z ≡ true) (sym split) (has_right n (named (entries a)) (l.id ∷ (named b ++ (c.id ∷ named tail))) in_zone)

lowered_entry : (n : ℕ) (s : Option Slot) → entry_of n (option_map lowered s) ≡ set (λ t. false) (entry_of n s)
lowered_entry n None = refl
lowered_entry n (Some s) = refl

lowered_some : (s : Option Slot) → is_some (option_map lowered s) ≡ is_some s
lowered_some None = refl
lowered_some (Some s) = refl

-- ---- what a removal came to

-- an id went: the document behind it, its line, and how the edit is told
pub record Went (d : Document) (n : ℕ) (l : Line) (x : Told) : Type 0 where
  pub document : Document
  pub is : remove d n ≡ changed document
  pub line_is : l ≡ shape document
  pub told : x ≡ told_outcome (edits.outcome (shape document))

abbrev told_in : Removal → Told → Told
told_in (removal.Removed x) y = x
told_in removal.Unknown y = y
told_in (removal.Refused k) y = y

module _ (l : Line) (slots : List (Option Slot)) (d : Document) (k : IsKept l slots d) (n : ℕ) (l_new : Line) (r : Removal)
    (after : l_new ≡ line_after (edits.removed n l) l) (told : r ≡ as_removal (edits.removed n l))
    (law : edits.removed n (shape d) ≡ shape_edited (remove d n)) where
  edited : (x : Edited) → remove d n ≡ x → edits.removed n l ≡ shape_edited x
  edited x q = ap (edits.removed n) (sym k.shape) ∙ law ∙ ap shape_edited q

  pub went : (x : Told) → r ≡ removal.Removed x → Went d n l_new x
  went x is = go (remove d n) refl
    where
      other : (y : Removal) → y ≡ removal.Removed x → x ≡ told_in y x
      other y e = sym (ap (λ z. told_in z x) e)

      go : (y : Edited) → remove d n ≡ y → Went d n l_new x
      go unknown q = absurd (unknown_not (sym (told ∙ ap as_removal (edited unknown q)) ∙ is))
        where
          unknown_not : removal.Unknown ≡ removal.Removed x → ⊥
          unknown_not h = absurd (cc)
      go (refused_by c) q = absurd (refused_not (sym (told ∙ ap as_removal (edited (refused_by c) q)) ∙ is))
        where
          refused_not : removal.Refused c ≡ removal.Removed x → ⊥
          refused_not h = absurd (cc)
      go (changed e) q = record {
        document = e;
        is = q;
        line_is = after ∙ ap (λ z. line_after z l) (edited (changed e) q);
        told = other r is ∙ ap (λ z. told_in z x) (told ∙ ap as_removal (edited (changed e) q));
      }

  -- nothing went, and the line is as it was
  pub stays : ((x : Told) → r ≡ removal.Removed x → ⊥) → (l_new ≡ l) × IsRemoval r (remove d n) d d
  stays not = go (remove d n) refl
    where
      as_told : (y : Edited) → remove d n ≡ y → IsRemoval (as_removal (shape_edited y)) y d d → IsRemoval r (remove d n) d d
      as_told y q h = subst (λ z. IsRemoval z (remove d n) d d) (sym (told ∙ ap as_removal (edited y q)))
          (subst (λ z. IsRemoval (as_removal (shape_edited y)) z d d) (sym q) h)

      go : (y : Edited) → remove d n ≡ y → (l_new ≡ l) × IsRemoval r (remove d n) d d
      go unknown q = (after ∙ ap (λ z. line_after z l) (edited unknown q), as_told unknown q (refl, refl))
      go (refused_by c) q = (after ∙ ap (λ z. line_after z l) (edited (refused_by c) q), as_told (refused_by c) q (refl, refl))
      go (changed e) q = absurd (not _ (told ∙ ap as_removal (edited (changed e) q)))

line_told : (o : edits.Outcome) → line_of (told_outcome o) ≡ Some (told_as o)
line_told (edits.new_tip i) = refl
line_told (edits.focused a b c) = refl

-- ---- the store behind it

pub lost_kept : (l m : Line) (slots new : List (Option Slot)) (d e : Document) → IsKept l slots d → IsKept m new e
    → edits.lost (shape d) (shape e) ≡ lost d e → edits.lost l m ≡ lost d e
lost_kept l m slots new d e k h law = (λ i. edits.lost (sym k.shape i) (sym h.shape i)) ∙ law

module _ (l : Line) (slots : List (Option Slot)) (limit n : ℕ) (k : IsKept l slots (document_of l slots limit)) (l_new : Line) (x : Told)
    (w : Went (document_of l slots limit) n l_new x) (gone : List ℕ) (g : gone ≡ edits.lost l l_new) (new : List (Option Slot))
    (left : (i : ℕ) → slot_at new i ≡ left_at gone l_new.focus slots i) (size : length new ≡ length slots)
    (flat : (f : Document) → lines.ids (shape f) ≡ line f) where
  abbrev d : Document
  d = document_of l slots limit

  abbrev e : Document
  e = w.document

  by_change : (P : Document → Type 0) → IfChanged P (remove d n) → P e
  by_change P h = subst (IfChanged P) w.is h

  has_ids : HasIds e
  has_ids = by_change HasIds (remove_ids d n k.ids)

  cut : IsCut (line d) (line e)
  cut = by_change (λ z. IsCut (line d) (line z)) (remove_cut d n)

  same : SameNumbers d e
  same = by_change (SameNumbers d) (remove_numbers d n)

  half : Half (entry_at slots) e
  half = by_change (Half (entry_at slots)) (remove_half (entry_at slots) d
      (agrees_filled (entry_at slots) (λ i. refl) l (length slots) limit) k.quiet n)

  -- a live id isn't among those that went
  not_gone : (i : ℕ) → has i (line e) ≡ true → has i gone ≡ false
  not_gone i h = ap (has i) g ∙ missing_not (lines.ids l_new) (lines.ids l) i
      (ap (has i) (ap lines.ids w.line_is ∙ flat e) ∙ h)

  slot_left : (b : Bool) (i : ℕ) → has i (line e) ≡ true → has i (stops_of e.focus) ≡ b → slot_at new i ≡ lower_if b (slot_at slots i)
  slot_left b i h q = left i ∙ ap (λ z. lower_if (has i (stops_in l_new.focus)) (if z then None else slot_at slots i)) (not_gone i h)
      ∙ ap (λ z. lower_if z (slot_at slots i)) (ap (λ z. has i (stops_in z.focus)) w.line_is ∙ ap (has i) (stops_shape e.focus) ∙ q)

  leaves : Leaves (entry_at slots) (entry_at new) e
  leaves = record {
    fallen = λ i h. ap (entry_of i) (slot_left true i (stop_live e.items e.focus i h) h) ∙ lowered_entry i (slot_at slots i);
    kept = λ i h q. ap (entry_of i) (slot_left false i h q);
  }

  agree : Agrees (entry_at new) (live e)
  agree = leaves_agree (entry_at slots) (entry_at new) e has_ids.distinct half leaves

  pub is_left : document_of l_new new limit ≡ e
  is_left = (λ i. filled (entry_at new) (w.line_is i) ((size ∙ sym same.0) i) (sym same.1 i)) ∙ filled_is (entry_at new) e agree

  held_if : (i : ℕ) → has i (line e) ≡ true → is_some (slot_at new i) ≡ true
  held_if i h = go (has i (stops_of e.focus)) refl
    where
      was : is_some (slot_at slots i) ≡ true
      was = within (λ m. is_some (slot_at slots m) ≡ true) (line d) k.held i (cut_has (line d) (line e) cut i h)

      go : (b : Bool) → has i (stops_of e.focus) ≡ b → is_some (slot_at new i) ≡ true
      go true q = ap is_some (slot_left true i h q) ∙ lowered_some (slot_at slots i) ∙ was
      go false q = ap is_some (slot_left false i h q) ∙ was

  kept_is : IsKept l_new new e
  kept_is = record {
    shape = sym w.line_is;
    sound = (by_change (Keeps language d) (remove_keeps language language_lawful d n k.sound)).sound;
    ids = has_ids;
    quiet = by_change IsQuiet (remove_quiet d n k.quiet);
    held = every_has (λ m. is_some (slot_at new m) ≡ true) (line e) held_if;
  }

  pub left_kept : IsKept l_new new (document_of l_new new limit)
  left_kept = subst (IsKept l_new new) (sym is_left) kept_is

  pub left_removed : ((f : Document) → told_as (edits.outcome (shape f)) ≡ outcome f) → (r : Removal) → r ≡ removal.Removed x
      → IsRemoval r (remove d n) d (document_of l_new new limit)
  left_removed law r is = subst (λ z. IsRemoval z (remove d n) d (document_of l_new new limit)) (sym is) (
    w.is ∙ ap changed (sym is_left),
    ap line_of w.told ∙ line_told (edits.outcome (shape e)) ∙ ap Some (law e ∙ ap outcome (sym is_left)),
  )

  less : TellsLess (entry_at slots) (text_at slots) (entry_at new) (text_at new) d e
  less i at told = go (has i (stops_of e.focus)) refl
    where
      go : (b : Bool) → has i (stops_of e.focus) ≡ b
          → (entry_at new i ≡ entry_at slots i) × ((text_at new i ≡ text_at slots i) × (has i (line d) ≡ true))
      go true q = no (sym (ap (λ (z : Entry). z.told) (leaves.fallen i q)) ∙ told)
      go false q = let same_slot : slot_at new i ≡ slot_at slots i = slot_left false i at q in
          (ap (entry_of i) same_slot, (ap text_of same_slot, cut_has (line d) (line e) cut i at))

  pub left_notes : Fewer (notes_by (text_at slots) (live d)) (notes_by (text_at new) (live (document_of l_new new limit)))
  left_notes m h = fewer (entry_at slots) (text_at slots) (entry_at new) (text_at new) d e
      (agrees_filled (entry_at slots) (λ i. refl) l (length slots) limit) agree less m
      (subst (λ z. Member m (notes_by (text_at new) (live z))) is_left h)
