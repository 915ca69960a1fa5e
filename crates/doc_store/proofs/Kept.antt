-- What is kept behind a change is the document behind it, and the verdicts that were told stay those that were.
use Rattle.std.proofs.Common.{◌≡◌, ◌⊎◌, inl, inr, ℕ, nat_eq, ◌||◌, if◌then◌else◌, List, [], ◌∷◌, map, length, Bool, true, false, Option, refl, sym, ap, ◌∙◌, subst}
use Rattle.line_theory.specs.Lists.{has, chosen}
use Rattle.line_theory.specs.Lines.{Line}
use Rattle.line_theory.proofs.Lists.{no, either_true, test_equal, test_same, has_right}
use Rattle.doc_theory.specs.Lists.{Member}
use Rattle.doc_theory.proofs.Lists.{chosen_member, every_at}
use Rattle.doc_theory.specs.Documents.{Entry, Document, live}
use Rattle.doc_theory.specs.Shape.{shape}
use Rattle.doc_theory.specs.Line.{line}
use Rattle.doc_store.specs.declared.slots.Slot.{Slot}
use Rattle.doc_store.specs.Slots.{entry_at}
use Rattle.doc_store.specs.Stored.{filled, document_of, Note, notes_by}
use Rattle.doc_store.proofs.Filled.{Agrees, filled_is}

-- a line with what is kept is the document whose shape it is
pub document_is : (l : Line) (slots : List (Option Slot)) (limit : ℕ) (e : Document) → Agrees (entry_at slots) (live e) → l ≡ shape e
    → length slots ≡ e.next → limit ≡ e.limit → document_of l slots limit ≡ e
document_is l slots limit e h s n m = (λ i. filled (entry_at slots) (s i) (n i) (m i)) ∙ filled_is (entry_at slots) e h

-- ---- members

found : (n : ℕ) (es : List Entry) → has n (map (λ x. x.id) es) ≡ true → (e : Entry) × (Member e es × (e.id ≡ n))
found n [] h = no h
found n (x ∷ es) h = at_first (either_true (nat_eq n x.id) (has n (map (λ y. y.id) es)) h) (λ k. found n es k)
  where
    at_first : (nat_eq n x.id ≡ true) ⊎ (has n (map (λ y. y.id) es) ≡ true)
        → (has n (map (λ y. y.id) es) ≡ true → (e : Entry) × (Member e es × (e.id ≡ n))) → (e : Entry) × (Member e (x ∷ es) × (e.id ≡ n))
    at_first (inl e) more = (x, (inl refl, sym (test_equal n x.id e)))
    at_first (inr k) more = let w : (e : Entry) × (Member e es × (e.id ≡ n)) = more k in (w.0, (inr w.1.0, w.1.1))

pub has_member : (es : List Entry) (e : Entry) → Member e es → has e.id (map (λ x. x.id) es) ≡ true
has_member [] e h = absurd h
has_member (x ∷ es) e (inl h) = ap (λ z. z || has e.id (map (λ y. y.id) es)) (ap (λ y. nat_eq e.id y.id) (sym h) ∙ test_same e.id)
has_member (x ∷ es) e (inr h) = has_right e.id (x.id ∷ []) (map (λ y. y.id) es) (has_member es e h)

from_map : {A B : Type 0} (h : A → B) (xs : List A) (y : B) → Member y (map h xs) → (x : A) × (Member x xs × (y ≡ h x))
from_map h [] y m = absurd m
from_map h (x ∷ xs) y (inl e) = (x, (inl refl, e))
from_map {A} h (x ∷ xs) y (inr m) = let w : (x : A) × (Member x xs × (y ≡ h x)) = from_map h xs y m in (w.0, (inr w.1.0, w.1.1))

to_map : {A B : Type 0} (h : A → B) (xs : List A) (x : A) → Member x xs → Member (h x) (map h xs)
to_map h [] x m = absurd m
to_map h (y ∷ xs) x (inl e) = inl (ap h e)
to_map h (y ∷ xs) x (inr m) = inr (to_map h xs x m)

to_chosen : {A : Type 0} (p : A → Bool) (xs : List A) (x : A) → Member x xs → p x ≡ true → Member x (chosen p xs)
to_chosen p [] x m e = absurd m
to_chosen p (y ∷ xs) x m e = go (p y) refl m (λ k. to_chosen p xs x k e)
  where
    go : (r : Bool) → p y ≡ r → Member x (y ∷ xs) → (Member x xs → Member x (chosen p xs))
        → Member x (if r then y ∷ chosen p xs else chosen p xs)
    go true q (inl h) more = inl h
    go true q (inr k) more = inr (more k)
    go false q (inl h) more = no (sym q ∙ ap p (sym h) ∙ e)
    go false q (inr k) more = more k

-- ---- verdicts that were told

-- what is told behind a change was told before, by the same sentence and with the same text
abbrev pub TellsLess : (ℕ → Entry) → (ℕ → Option (List ℕ)) → (ℕ → Entry) → (ℕ → Option (List ℕ)) → Document → Document → Type 0
TellsLess f t g u d e = (n : ℕ) → has n (line e) ≡ true → (g n).told ≡ true → (g n ≡ f n) × ((u n ≡ t n) × (has n (line d) ≡ true))

-- a verdict that was told is that of a live entry
pub record IsOf (f : ℕ → Entry) (u : ℕ → Option (List ℕ)) (d : Document) (m : Note) : Type 0 where
  pub entry : Entry
  pub at : Member entry (live d)
  pub told : entry.told ≡ true
  pub own : f entry.id ≡ entry
  pub is : m ≡ record { id = entry.id; text = u entry.id }

pub note_of : (f : ℕ → Entry) (u : ℕ → Option (List ℕ)) (d : Document) → Agrees f (live d) → (m : Note) → Member m (notes_by u (live d))
    → IsOf f u d m
note_of f u d h m w =
    let from : (x : Entry) × (Member x (chosen (λ y. y.told) (live d)) × (m ≡ record { id = x.id; text = u x.id })) =
    from_map (λ y. let n : Note = record { id = y.id; text = u y.id } in n) (chosen (λ y. y.told) (live d)) m w in
    let at : Member from.0 (live d) × (from.0.told ≡ true) = chosen_member (λ y. y.told) (live d) from.0 from.1.0 in
    record { entry = from.0; at = at.0; told = at.1; own = every_at (λ y. f y.id ≡ y) (live d) h from.0 at.0; is = from.1.1 }

pub is_noted : (f : ℕ → Entry) (t : ℕ → Option (List ℕ)) (d : Document) → Agrees f (live d) → (x : Entry) (n : ℕ) (s : Option (List ℕ))
    → x.id ≡ n → f n ≡ x → x.told ≡ true → has n (line d) ≡ true → s ≡ t n
    → Member (let m : Note = record { id = n; text = s } in m) (notes_by t (live d))
is_noted f t d h x n s id is told there same =
    let was : (y : Entry) × (Member y (live d) × (y.id ≡ n)) = found n (live d) there in
    let entry : was.0 ≡ x = sym (every_at (λ y. f y.id ≡ y) (live d) h was.0 was.1.0) ∙ ap f was.1.1 ∙ is in
    subst (λ z. Member z (notes_by t (live d)))
    ((λ i. let m : Note = record { id = id i; text = t (id i) } in m) ∙ (λ i. let m : Note = record { id = n; text = sym same i } in m))
    (to_map (λ y. let m : Note = record { id = y.id; text = t y.id } in m) (chosen (λ y. y.told) (live d)) x
    (to_chosen (λ y. y.told) (live d) x (subst (λ y. Member y (live d)) entry was.1.0) told))

pub fewer : (f : ℕ → Entry) (t : ℕ → Option (List ℕ)) (g : ℕ → Entry) (u : ℕ → Option (List ℕ)) (d e : Document)
    → Agrees f (live d) → Agrees g (live e) → TellsLess f t g u d e → (m : Note) → Member m (notes_by u (live e)) → Member m (notes_by t (live d))
fewer f t g u d e h k less m w =
    let o : IsOf g u e m = note_of g u e k m w in
    let told : (g o.entry.id ≡ f o.entry.id) × ((u o.entry.id ≡ t o.entry.id) × (has o.entry.id (line d) ≡ true)) =
    less o.entry.id (has_member (live e) o.entry o.at) (ap (λ (y : Entry). y.told) o.own ∙ o.told) in
    subst (λ z. Member z (notes_by t (live d))) (sym o.is)
    (is_noted f t d h o.entry o.entry.id (u o.entry.id) refl (sym told.0 ∙ o.own) o.told told.1.1 told.1.0)
