-- Slots: without a hypothesis, one list after another, and by name.
use Rattle.std.proofs.Common.{◌≡◌, ℕ, List, [], ◌∷◌, ◌++◌, refl, ap, Bool, true, false, if◌then◌else◌, ◌==◌}
use Rattle.fol_theory.specs.Contexts.{Entry, variable, hypothesis, count, without}
use Rattle.fol_theory.specs.Slots.{Slot, entries, names, unless, slots_without}

pub entries_append : (newer older : List Slot) → entries (newer ++ older) ≡ entries newer ++ entries older
entries_append [] older = refl
entries_append (x ∷ newer) older = ap (λ c. x.entry ∷ c) (entries_append newer older)

pub names_append : (newer older : List Slot) → names (newer ++ older) ≡ names newer ++ names older
names_append [] older = refl
names_append (x ∷ newer) older = ap (λ ns. x.name ∷ ns) (names_append newer older)

unless_entries : (i : ℕ) (e : Entry) (x : Slot) (c : List Slot) → x.entry ≡ e → entries (slots_without c i) ≡ without (entries c) i
    → entries (unless i e x c (slots_without c i)) ≡ without (e ∷ entries c) i
unless_entries i (variable s) x c q h = λ k. q k ∷ h k
unless_entries i (hypothesis a) x c q h = go (i == count (entries c))
  where
    go : (t : Bool) → entries (if t then c else x ∷ slots_without c i) ≡ (if t then entries c else hypothesis a ∷ without (entries c) i)
    go true = refl
    go false = λ k. q k ∷ h k

-- without a hypothesis, names or not
pub entries_without : (c : List Slot) (i : ℕ) → entries (slots_without c i) ≡ without (entries c) i
entries_without [] i = refl
entries_without (x ∷ c) i = unless_entries i x.entry x c refl (entries_without c i)
