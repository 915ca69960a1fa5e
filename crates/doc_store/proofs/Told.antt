-- A verdict that is told.
use Rattle.std.proofs.Common.{◌≡◌, ◌⊎◌, inl, inr, ℕ, nat_eq, if◌then◌else◌, List, [], ◌∷◌, map, length, Bool, true, false, Option, Some, None, option_map, is_some, refl, sym, ap, ◌∙◌, subst}
use Rattle.line_theory.specs.Lists.{has}
use Rattle.line_theory.specs.Shapes.{lone, block, closed, proof, last, zone}
use Rattle.line_theory.specs.Lines.{Line}
use Rattle.line_theory.proofs.Lists.{test_equal}
use Rattle.doc_theory.specs.Lists.{Member}
use Rattle.doc_theory.proofs.Lists.{every_map}
use Rattle.doc_theory.specs.Documents.{
  Entry,
  Item,
  End,
  Focus,
  Document,
  Home,
  live,
  flag,
  flag_item,
  flag_end,
  flag_focus,
  flagged,
  set,
  telling,
  tell,
}
use Rattle.doc_theory.specs.Line.{line}
use Rattle.doc_theory.specs.Shape.{shape, shape_items, shape_end, shape_focus}
use Rattle.doc_theory.proofs.Places.{named, line_flagged}
use Rattle.doc_theory.proofs.Flags.{sound_flagged}
use Rattle.doc_store.specs.declared.slots.Slot.{Slot}
use Rattle.doc_store.specs.Slots.{at_one, entry_of, entry_at, slot_at, text_at, text_of, told_with}
use Rattle.doc_store.specs.Stored.{document_of, Note, notes_by, Held, IsKept, Outside}
use Rattle.doc_store.proofs.Filled.{Agrees, agrees_filled}
use Rattle.doc_store.proofs.Apart.{within}
use Rattle.doc_store.proofs.Quiet.{tell_quiet}
use Rattle.doc_store.proofs.Numbered.{ids_same}
use Rattle.doc_store.proofs.Telling.{tell_agrees}
use Rattle.doc_store.proofs.Kept.{document_is, has_member, IsOf, note_of, is_noted}

-- ---- flags change no shape

module _ (rule : Home → ℕ → Bool → Bool) where
  named_flag : (h : Home) (b : List Entry) → named (map (flag rule h) b) ≡ named b
  named_flag h [] = refl
  named_flag h (e ∷ es) = ap (λ z. e.id ∷ z) (named_flag h es)

  items_flag : (xs : List Item) → shape_items (map (flag_item rule) xs) ≡ shape_items xs
  items_flag [] = refl
  items_flag (lone e ∷ xs) = ap (λ z. lone e.id ∷ z) (items_flag xs)
  items_flag (block l b c ∷ xs) = λ i. block l.id (named_flag (Rattle.doc_theory.specs.Documents.home (Rattle.doc_theory.specs.Documents.delegates c.sentence.kind) l.id) b i)
      (Rattle.doc_theory.specs.Shape.closing c) ∷ items_flag xs i

  end_flag : (o : End) → shape_end (flag_end rule o) ≡ shape_end o
  end_flag closed = refl
  end_flag (proof l b) = ap (proof l.id) (named_flag Rattle.doc_theory.specs.Documents.outside b)

  focus_flag : (F : Focus) → shape_focus (flag_focus rule F) ≡ shape_focus F
  focus_flag (last o) = ap last (end_flag o)
  focus_flag (zone l b c t o) = λ i. zone l.id (named_flag Rattle.doc_theory.specs.Documents.outside b i)
      (Rattle.doc_theory.specs.Shape.closing c) (items_flag t i) (end_flag o i)

  shape_flag : (d : Document) → shape (flagged rule d) ≡ shape d
  shape_flag d = λ i. record { items = items_flag d.items i; focus = focus_flag d.focus i }

-- ---- behind it

told_entry : (n : ℕ) (text : Option (List ℕ)) (s : Option Slot) → is_some s ≡ true
    → entry_of n (option_map (told_with text) s) ≡ set (λ t. true) (entry_of n s)
told_entry n text (Some s) h = refl
told_entry n text None h = absurd (cc)

told_text : (text : Option (List ℕ)) (s : Option Slot) → is_some s ≡ true → text_of (option_map (told_with text) s) ≡ text
told_text text (Some s) h = refl
told_text text None h = absurd (cc)

still : (text : Option (List ℕ)) (r : Bool) (s : Option Slot) → is_some s ≡ true
    → is_some (if r then option_map (told_with text) s else s) ≡ true
still text true (Some s) h = refl
still text true None h = h
still text false s h = h

module _ (l : Line) (slots new : List (Option Slot)) (limit i : ℕ) (text : Option (List ℕ))
    (K : IsKept l slots (document_of l slots limit)) (there : has i (line (document_of l slots limit)) ≡ true)
    (out : Outside i (document_of l slots limit)) (len : length new ≡ length slots)
    (each : (n : ℕ) → slot_at new n ≡ at_one i (option_map (told_with text)) slots n) where
  abbrev d : Document
  d = document_of l slots limit

  abbrev e : Document
  e = tell (i ∷ []) d

  here : is_some (slot_at slots i) ≡ true
  here = within (λ n. is_some (slot_at slots n) ≡ true) (line d) K.held i there

  step_at : (n : ℕ) (r : Bool) → nat_eq n i ≡ r
      → entry_of n (if r then option_map (told_with text) (slot_at slots n) else slot_at slots n)
      ≡ (if r then set (λ t. true) (entry_at slots n) else entry_at slots n)
  step_at n true q = told_entry n text (slot_at slots n) (subst (λ z. is_some (slot_at slots z) ≡ true) (sym (test_equal n i q)) here)
  step_at n false q = refl

  step : (n : ℕ) → entry_at new n ≡ (if nat_eq n i then set (λ t. true) (entry_at slots n) else entry_at slots n)
  step n = ap (entry_of n) (each n) ∙ step_at n (nat_eq n i) refl

  before : Agrees (entry_at slots) (live d)
  before = agrees_filled (entry_at slots) (λ n. refl) l (length slots) limit

  behind : Agrees (entry_at new) (live e)
  behind = tell_agrees i (entry_at slots) (entry_at new) step d before out

  shaped : shape e ≡ l
  shaped = shape_flag (telling (i ∷ [])) d ∙ K.shape

  pub told_is : document_of l new limit ≡ e
  told_is = document_is l new limit e behind (sym shaped) len refl

  kept : IsKept l new e
  kept = record {
    shape = shaped;
    sound = sound_flagged (telling (i ∷ [])) d K.sound;
    ids = ids_same d e refl (line_flagged (telling (i ∷ [])) d) K.ids;
    quiet = tell_quiet (i ∷ []) d K.quiet;
    held = subst (Held new) (sym (line_flagged (telling (i ∷ [])) d)) (every_map (λ n. is_some (slot_at slots n) ≡ true)
        (λ n. is_some (slot_at new n) ≡ true) (line d) (λ n h. ap is_some (each n) ∙ still text (nat_eq n i) (slot_at slots n) h) K.held);
  }

  pub told_kept : IsKept l new (document_of l new limit)
  told_kept = subst (IsKept l new) (sym told_is) kept

  abbrev this : Note
  this = record { id = i; text = text }

  told_note : (m : Note) → IsOf (entry_at new) (text_at new) e m → (r : Bool) (n : ℕ) → nat_eq n i ≡ r → has n (line e) ≡ true
      → (x : Entry) → x.id ≡ n → entry_at new n ≡ x → x.told ≡ true → m ≡ record { id = n; text = text_at new n }
      → Member m (notes_by (text_at slots) (live d)) ⊎ (m ≡ this)
  told_note m o true n q at x id own told is = inr (is ∙ (λ k. let z : Note = record { id = test_equal n i q k; text = text_at new (test_equal n i q k) } in z)
      ∙ ap (λ z. let w : Note = record { id = i; text = z } in w) (ap text_of (each i
      ∙ ap (λ z. if z then option_map (told_with text) (slot_at slots i) else slot_at slots i) (Rattle.line_theory.proofs.Lists.test_same i))
      ∙ told_text text (slot_at slots i) here))
  told_note m o false n q at x id own told is =
      let same : slot_at new n ≡ slot_at slots n = each n
      ∙ ap (λ z. if z then option_map (told_with text) (slot_at slots n) else slot_at slots n) q in
      inl (subst (λ z. Member z (notes_by (text_at slots) (live d))) (sym is) (is_noted (entry_at slots) (text_at slots) d before x n (text_at new n) id
      (sym (ap (entry_of n) same) ∙ own) told (subst (λ z. has n z ≡ true) (line_flagged (telling (i ∷ [])) d) at) (ap text_of same)))

  pub told_notes : (m : Note) → Member m (notes_by (text_at new) (live (document_of l new limit)))
      → Member m (notes_by (text_at slots) (live d)) ⊎ (m ≡ this)
  told_notes m w =
      let o : IsOf (entry_at new) (text_at new) e m = note_of (entry_at new) (text_at new) e behind m
      (subst (λ z. Member m (notes_by (text_at new) (live z))) told_is w) in
      told_note m o (nat_eq o.entry.id i) o.entry.id refl (has_member (live e) o.entry o.at) o.entry refl o.own o.told o.is
