-- Nothing is told inside of delegated blocks, and sentences that are added, removed or told leave it so.
use Rattle.std.proofs.Common.{◌≡◌, ℕ, List, [], ◌∷◌, map, Bool, true, false, refl, sym, ap, ◌∙◌, subst}
use Rattle.line_theory.specs.Lists.{Every}
use Rattle.line_theory.specs.Shapes.{lone, block, last, zone}
use Rattle.line_theory.proofs.Lists.{no}
use Rattle.doc_theory.specs.Documents.{Sentence, Entry, delegates, Item, Focus, Document, set, falls, fall, tell}
use Rattle.doc_theory.specs.Editing.{Edited, unknown, refused_by, changed, remove, Tried, refused, added, attempt}
use Rattle.doc_theory.specs.Invariants.{IfAdded, IfChanged}
use Rattle.doc_theory.proofs.Forgotten.{forget_item, forget_focus, forget, tell_forget}
use Rattle.doc_theory.proofs.Located.{forget_edited, remove_forget, forget_tried, attempt_forget}
use Rattle.doc_store.specs.Stored.{IsUntold, QuietItem, QuietFocus, IsQuiet}

untold_same : (e : Entry) → IsUntold e → set (λ t. false) e ≡ e
untold_same e h = λ i. record { id = e.id; sentence = e.sentence; told = sym h i }

pub falls_same : (b : List Entry) → Every IsUntold b → fall true b ≡ b
falls_same [] h = refl
falls_same (e ∷ es) h = λ i. untold_same e h.0 i ∷ falls_same es h.1 i

fallen_quiet : (b : List Entry) → Every IsUntold (fall true b)
fallen_quiet [] = tt
fallen_quiet (e ∷ es) = (refl, fallen_quiet es)

-- ---- what is quiet has nothing to forget, and what is left when it is forgotten is quiet

item_same : (l : Entry) (b : List Entry) (c : Entry) (r : Bool) → (r ≡ true → Every IsUntold b × IsUntold c)
    → block l (fall r b) (set (falls r) c) ≡ block l b c
item_same l b c true h = λ i. block l (falls_same b (h refl).0 i) (untold_same c (h refl).1 i)
item_same l b c false h = refl

items_same : (xs : List Item) → Every QuietItem xs → map forget_item xs ≡ xs
items_same [] h = refl
items_same (lone e ∷ xs) h = ap (λ z. lone e ∷ z) (items_same xs h.1)
items_same (block l b c ∷ xs) h = λ i. item_same l b c (delegates c.sentence.kind) h.0 i ∷ items_same xs h.1 i

focus_same : (f : Focus) → QuietFocus f → forget_focus f ≡ f
focus_same (last o) h = refl
focus_same (zone l b c t o) h = ap (λ z. zone l b c z o) (items_same t h)

pub quiet_same : (d : Document) → IsQuiet d → forget d ≡ d
quiet_same d h = λ i. record { items = items_same d.items h.0 i; focus = focus_same d.focus h.1 i; next = d.next; limit = d.limit }

forgotten : (l : Entry) (b : List Entry) (c : Entry) (r : Bool) → r ≡ true → Every IsUntold (fall r b) × IsUntold (set (falls r) c)
forgotten l b c true e = (fallen_quiet b, refl)
forgotten l b c false e = no e

items_quiet : (xs : List Item) → Every QuietItem (map forget_item xs)
items_quiet [] = tt
items_quiet (lone e ∷ xs) = (tt, items_quiet xs)
items_quiet (block l b c ∷ xs) = (forgotten l b c (delegates c.sentence.kind), items_quiet xs)

focus_quiet : (f : Focus) → QuietFocus (forget_focus f)
focus_quiet (last o) = tt
focus_quiet (zone l b c t o) = items_quiet t

pub forget_quiet : (d : Document) → IsQuiet (forget d)
forget_quiet d = (items_quiet d.items, focus_quiet d.focus)

-- ---- what each change leaves

tried_quiet : (x : Tried) → IfAdded IsQuiet (forget_tried x)
tried_quiet (refused e) = tt
tried_quiet (added e i t) = forget_quiet e

pub attempt_quiet : (d : Document) (p : ℕ) (x : Sentence) → IsQuiet d → IfAdded IsQuiet (attempt d p x)
attempt_quiet d p x h =
    subst (IfAdded IsQuiet) (sym (attempt_forget d p x) ∙ ap (λ z. attempt z p x) (quiet_same d h)) (tried_quiet (attempt d p x))

edited_quiet : (x : Edited) → IfChanged IsQuiet (forget_edited x)
edited_quiet unknown = tt
edited_quiet (refused_by k) = tt
edited_quiet (changed e) = forget_quiet e

pub remove_quiet : (d : Document) (i : ℕ) → IsQuiet d → IfChanged IsQuiet (remove d i)
remove_quiet d i h = subst (IfChanged IsQuiet) (sym (remove_forget d i) ∙ ap (λ z. remove z i) (quiet_same d h)) (edited_quiet (remove d i))

pub tell_quiet : (ns : List ℕ) (d : Document) → IsQuiet d → IsQuiet (tell ns d)
tell_quiet ns d h = subst IsQuiet (sym (tell_forget ns d) ∙ ap (tell ns) (quiet_same d h)) (forget_quiet (tell ns d))
