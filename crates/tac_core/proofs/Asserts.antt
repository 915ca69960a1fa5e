-- What is asserted, and what is cleared.
use Rattle.std.proofs.Common.{◌≡◌, ℕ, suc, ◌<◌, true, false, List, [], ◌∷◌, Some, Ok, Err, refl, ap, subst, ◌∙◌, if◌then◌else◌}
use Rattle.fol_theory.specs.Syntax.{Formula}
use Rattle.fol_theory.specs.Contexts.{hypothesis, variables, count}
use Rattle.fol_theory.specs.Slots.{Slot, slot, entries, names, slots_without}
use Rattle.fol_theory.proofs.Numbers.{hypothesis_there}
use Rattle.fol_theory.proofs.Slots.{entries_without}
use Rattle.env_theory.specs.Declarations.{Declaration}
use Rattle.env_theory.specs.Typing.{WellFormed}
use Rattle.logic_theory.specs.Rules.{leaf, step, seq, cut, drop, Follows}
use Rattle.logic_theory.specs.Goals.{Goal, goal, goals}
use Rattle.logic_theory.proofs.Grafting.{label_names, names_entries}
use Rattle.match_theory.specs.Places.{or_else}
use Rattle.tactic_theory.specs.Faults.{name_taken, too_large}
use Rattle.tactic_theory.specs.Names.{is_taken}
use Rattle.tactic_theory.specs.Refinements.{part, assert, row, first_large, limited}
use Rattle.script_theory.specs.Sizes.{large}
use Rattle.tac_base.specs.Openings.{made, measured, Opens}

module _ (E : List Declaration) (g : Goal) (n : List ℕ) (a : Formula) where
  pub lemma_opens : WellFormed E (variables (entries g.slots)) a
      → Opens E g (part [] g.slots a ∷ part (slot n (hypothesis a) ∷ []) g.slots g.shown ∷ [])
      (made (step (cut a) ∷ leaf (names g.slots) ∷ leaf (n ∷ names g.slots) ∷ []) (a ∷ a ∷ g.shown ∷ []))
  lemma_opens w = record {
    follows = (w, (names_entries g.slots, (ap suc (names_entries g.slots), tt)));
    leaves = λ i. goal (label_names g.slots i) a ∷ goal (slot n (hypothesis a) ∷ label_names g.slots i) g.shown ∷ [];
    formulas = refl;
  }

module _ (E : List Declaration) (c : List Slot) (g : Formula) (n : List ℕ) (a : Formula) where
  pub name_taken_row : is_taken E c n ≡ true → row E c g (assert n a) ≡ Err name_taken
  name_taken_row e = ap (λ q. if q then Err name_taken else Ok (part [] c a ∷ part (slot n (hypothesis a) ∷ []) c g ∷ [])) e

  pub name_free_row : is_taken E c n ≡ false → row E c g (assert n a) ≡ Ok (part [] c a ∷ part (slot n (hypothesis a) ∷ []) c g ∷ [])
  name_free_row e = ap (λ q. if q then Err name_taken else Ok (part [] c a ∷ part (slot n (hypothesis a) ∷ []) c g ∷ [])) e

  pub taken_measured : is_taken E c n ≡ true → measured E (row E c g (assert n a)) ≡ Err name_taken
  taken_measured e = ap (measured E) (name_taken_row e)

  pub large_measured : (w v : ℕ) → is_taken E c n ≡ false → large E a ≡ Some (w, v)
      → measured E (row E c g (assert n a)) ≡ Err (too_large w v)
  large_measured w v e k = ap (measured E) (name_free_row e)
      ∙ ap (λ o. limited (or_else o (first_large (large E) (a ∷ g ∷ []))) (part [] c a ∷ part (slot n (hypothesis a) ∷ []) c g ∷ [])) k

pub ruleset asserting = (taken_measured, large_measured)

-- ---- a hypothesis less

pub without_opens : (E : List Declaration) (g : Goal) (i : ℕ) → i < count (entries g.slots)
    → Opens E g (part [] (slots_without g.slots i) g.shown ∷ [])
    (made (step (drop i) ∷ leaf (names (slots_without g.slots i)) ∷ []) (g.shown ∷ []))
without_opens E g i h =
    let k = slots_without g.slots i in
    let w = hypothesis_there (entries g.slots) i h in
    record {
      follows = (w, subst (λ d. Follows E (leaf (names k) ∷ []) (seq d g.shown ∷ [])) (entries_without g.slots i) (names_entries k, tt));
      leaves = subst (λ d. goals (leaf (names k) ∷ []) (seq d g.shown ∷ []) ≡ goal k g.shown ∷ []) (entries_without g.slots i)
          (λ j. goal (label_names k j) g.shown ∷ []);
      formulas = refl;
    }
