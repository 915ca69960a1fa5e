-- What a store answers of its line and of what it keeps is so of its document.
use Rattle.std.proofs.Common.{◌≡◌, ℕ, ◌^◌, nat_eq, nat_lt, ◌||◌, not, ◌<◌, ◌≤◌, arith, List, [], ◌∷◌, map, length, suc, Bool, true, false, Option, Some, None, option_map, is_some, IsSome, refl, sym, ap, ◌∙◌, subst}
use Rattle.std.proofs.lemmas.Bool.Decides.{nat_tests}
use Rattle.line_theory.specs.Lists.{has, Every}
use Rattle.line_theory.specs.Lines as lines
use Rattle.line_theory.proofs.Lists.{no, test_equal}
use Rattle.doc_theory.specs.Documents.{Entry, Document, Mark, marks, ids, cursor, tip}
use Rattle.doc_theory.specs.Editing.{is_full}
use Rattle.doc_theory.specs.Line.{line}
use Rattle.doc_theory.specs.Shape.{shape}
use Rattle.doc_theory.proofs.Places.{ids_line}
use Rattle.doc_theory.proofs.Lists.{every_map}
use Rattle.doc_store.specs.declared.slots.Slot.{Slot}
use Rattle.doc_store.specs.Slots.{entry_of, entry_at, slot_at}
use Rattle.doc_store.specs.Stored.{IsKept}
use Rattle.doc_store.proofs.Apart.{within}
use Rattle.doc_store.proofs.Filled.{Agrees}

length_mapped : (f : Mark → ℕ) (ms : List Mark) → length (map f ms) ≡ length ms
length_mapped f [] = refl
length_mapped f (m ∷ ms) = ap suc (length_mapped f ms)

pub some_of : {A B : Type 0} (f : A → B) (o : Option A) → is_some (option_map f o) ≡ true → IsSome o
some_of f None h = no h
some_of f (Some x) h = refl

pub first_true : (a b : Bool) → a ≡ true → a ≡ (a || b)
first_true true b h = refl
first_true false b h = no h

pub second_left : (a b : Bool) → a ≡ false → b ≡ (a || b)
second_left true b h = no (sym h)
second_left false b h = refl

-- the tests of numbers, as proofs have them
pub not_below : (n m : ℕ) → m ≤ n → nat_lt n m ≡ false
not_below n m h = grind (arith, nat_tests)

pub is_below : (n m : ℕ) → n < m → nat_lt n m ≡ true
is_below n m h = grind (arith, nat_tests)

pub is_other : (n m : ℕ) → (n ≡ m → ⊥) → nat_eq m n ≡ false
is_other n m h = go (nat_eq m n) refl
  where
    go : (b : Bool) → nat_eq m n ≡ b → b ≡ false
    go true e = absurd (h (sym (test_equal m n e)))
    go false e = refl

pub same_test : (a b : Bool) → (a ≡ true → b ≡ true) × (b ≡ true → a ≡ true) → a ≡ b
same_test true b h = sym (h.0 refl)
same_test false true h = h.1 refl
same_test false false h = refl

module _ (l : lines.Line) (slots : List (Option Slot)) (d : Document) (k : IsKept l slots d) where
  pub cursor_kept : lines.cursor (shape d) ≡ cursor d → lines.cursor l ≡ cursor d
  cursor_kept law = ap lines.cursor (sym k.shape) ∙ law

  pub tip_kept : lines.tip (shape d) ≡ tip d → lines.tip l ≡ tip d
  tip_kept law = ap lines.tip (sym k.shape) ∙ law

  pub ids_kept : lines.ids (shape d) ≡ line d → lines.ids l ≡ ids d
  ids_kept law = ap lines.ids (sym k.shape) ∙ law ∙ sym (ids_line d)

  pub full_kept : lines.ids (shape d) ≡ line d → (n : ℕ) → n ≡ length (lines.ids l)
      → (not (nat_lt n d.limit) || not (nat_lt d.next (2 ^ 62))) ≡ is_full d
  full_kept law n h = ap (λ z. not (nat_lt z d.limit) || not (nat_lt d.next (2 ^ 62)))
      (h ∙ ap length (ids_kept law) ∙ length_mapped (λ m. m.id) (marks d))

  pub held_kept : (n : ℕ) → has n (ids d) ≡ true → is_some (slot_at slots n) ≡ true
  held_kept n h = within (λ m. is_some (slot_at slots m) ≡ true) (line d) k.held n (subst (λ z. has n z ≡ true) (ids_line d) h)

-- what is kept with an id is the entry that is live with it
pub entry_kept : (slots : List (Option Slot)) (n : ℕ) (s : Option Slot) → s ≡ slot_at slots n → (es : List Entry)
    → Agrees (entry_at slots) es → Every (λ e. e.id ≡ n → entry_of n s ≡ e) es
entry_kept slots n s q es h = every_map (λ e. entry_at slots e.id ≡ e) (λ e. e.id ≡ n → entry_of n s ≡ e) es
    (λ e g r. ap (entry_of n) q ∙ ap (entry_at slots) (sym r) ∙ g) h
