-- Numbers that are used up by the names outside.
use Rattle.std.proofs.Common.{◌≡◌, ℕ, ◌<◌, ◌||◌, List, Bool, true, false, cond, Some, refl, sym, ap, subst, ◌∙◌}
use Rattle.std.specs.Prelude.{nat_eq}
use Rattle.std.specs.Map.{lookup}
use Rattle.std.specs.Cmp.Lexicographic.{pointwise, same_text}
use Rattle.indexmap.specs.IndexMap.{IndexMap, get}
use Rattle.elab_theory.specs.Sentences.{is_among}
use Rattle.print_theory.specs.Names.{numbered}
use Rattle.print_theory.proofs.Picks.{among_append}
use Rattle.term_print.specs.Output.{Names, used_names, names_outside, AreUsed, ArePassed}
use Rattle.term_print.proofs.Scopes.{used_is}

or_more : (s t u : Bool) → (t || u) ≡ true → ((s || t) || u) ≡ true
or_more true t u h = refl
or_more false t u h = h

-- a name outside is a used one
outside_used : (x : List ℕ) (s : Names) → is_among x (names_outside s) ≡ true → is_among x (used_names s) ≡ true
outside_used x s h = used_is x s
    ∙ or_more (is_among x s.bound) (is_among x s.outer) (is_among x s.taken) (sym (among_append x s.outer s.taken) ∙ h)

pub all_used : (x : List ℕ) (n : ℕ) (s : Names) → AreUsed x n (names_outside s) → AreUsed x n (used_names s)
all_used x n s h j l = outside_used (numbered x j) s (h j l)

-- the same of an equal name, and of equal scopes
pub outside_moved : (x y : List ℕ) (n : ℕ) (s r : Names) → y ≡ x → s ≡ r → AreUsed x n (names_outside r) → AreUsed y n (names_outside s)
outside_moved x y n s r name scope h j l =
    ap (λ z. is_among (numbered z j) (names_outside s)) name ∙ ap (λ z. is_among (numbered x j) (names_outside z)) scope ∙ h j l

count_is : (c n : ℕ) → Some c ≡ Some n → c ≡ n
count_is c n h = cc

-- a name's number is put into the map
pub passed_put : {S : Type 0} (old new : IndexMap (List ℕ) ℕ S) (x : List ℕ) (c : ℕ) (used : List (List ℕ))
    → ((q : List ℕ) → get (pointwise nat_eq) new q ≡ cond (pointwise nat_eq x q) (Some c) (get (pointwise nat_eq) old q))
    → AreUsed x c used → ArePassed old used → ArePassed new used
passed_put old new x c used each u p y n h = by (pointwise nat_eq x y) refl (sym (each y) ∙ h)
  where
    by : (t : Bool) → pointwise nat_eq x y ≡ t → cond t (Some c) (get (pointwise nat_eq) old y) ≡ Some n → AreUsed y n used
    by true e g j l =
        ap (λ z. is_among (numbered z j) used) (sym (same_text x y (sym e))) ∙ u j (subst (λ k. j < k) (sym (count_is c n g)) l)
    by false e g j l = p y n g j l

-- the map has the same pairs
pub passed_kept : {S : Type 0} (old new : IndexMap (List ℕ) ℕ S) (used : List (List ℕ)) → new.entries ≡ old.entries → ArePassed old used
    → ArePassed new used
passed_kept old new used same p x n h = p x n (sym (ap (λ es. lookup (pointwise nat_eq x) es) same) ∙ h)
