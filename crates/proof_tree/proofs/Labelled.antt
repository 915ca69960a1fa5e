-- Names put on slots, one after another from the newest on.
use Rattle.std.proofs.Common.{◌≡◌, ℕ, suc, List, [], ◌∷◌, ◌++◌, length, take, drop, reverse, refl, sym, ap, ◌∙◌, append-nil}
use Rattle.std.proofs.lemmas.List.{length-reverse, take-append-drop}
use Rattle.fol_theory.specs.Slots.{Slot, entries}
use Rattle.logic_theory.specs.Goals.{label}

-- what is made anew stands before what is kept
pub put_together : (anew : ℕ) (all xs ys s : List Slot) → all ≡ xs ++ [] → s ≡ drop anew xs ++ [] → ys ≡ take anew xs → ys ++ s ≡ all
put_together anew all xs ys s a e t =
    ap (λ z. z ++ s) t ∙ ap (λ z. take anew xs ++ z) (e ∙ append-nil (drop anew xs)) ∙ take-append-drop anew xs
    ∙ sym (a ∙ append-nil xs)

-- without slots no name is put on
pub label_none : (ns : List (List ℕ)) (c : List Slot) → c ≡ [] → label ns (entries c) ≡ []
label_none ns c h = ap (λ z. label ns (entries z)) h ∙ go ns
  where
    go : (ms : List (List ℕ)) → label ms [] ≡ []
    go [] = refl
    go (m ∷ ms) = refl

pub length_entries : (c : List Slot) → length (entries c) ≡ length c
length_entries [] = refl
length_entries (x ∷ c) = ap suc (length_entries c)

-- there are as many names as slots
pub named_all : (ns : List (List ℕ)) (c : List Slot) → length (reverse ns) ≡ length (entries c) → length ns ≡ length c
named_all ns c h = sym (length-reverse ns) ∙ h ∙ length_entries c
