-- What is made of an equation: reflexivity and symmetry.
use Rattle.std.proofs.Common.{◌≡◌, ℕ, ◌<◌, ◌≤◌, ◌^◌, Bool, true, false, if◌then◌else◌, List, [], ◌∷◌, Ok, Err, Decides, refl, sym, ap, subst, ◌∙◌, arith}
use Rattle.fol_theory.specs.Syntax.{Term, var, Formula, equal}
use Rattle.fol_theory.specs.Substitution.{replace_term, next, first, instantiate, shift_term}
use Rattle.fol_theory.specs.Measures.{term_reach}
use Rattle.fol_theory.specs.Contexts.{variables}
use Rattle.fol_theory.specs.Slots.{entries, names}
use Rattle.fol_theory.proofs.AtIndex.{next_raise}
use Rattle.fol_theory.proofs.Laws.{term_undo}
use Rattle.fol_theory.proofs.Reaches.{shift_term_reach}
use Rattle.env_theory.specs.Declarations.{Declaration}
use Rattle.env_theory.specs.Typing.{Environment, WellFormed}
use Rattle.env_theory.specs.Heads.{head_form}
use Rattle.env_theory.specs.Normal.{normal_term, Same}
use Rattle.env_theory.proofs.Sameness.{same_equal}
use Rattle.env_theory.proofs.Sorts.{replace_sort, fits_next, sort_reach}
use Rattle.env_theory.proofs.Keeps.{normal_sort}
use Rattle.logic_theory.specs.Goals.{Goal, goal}
use Rattle.logic_theory.specs.Rules.{leaf, step, eq_i, eq_e}
use Rattle.logic_theory.proofs.Grafting.{label_names, names_entries}
use Rattle.match_theory.specs.Matching.{same_term}
use Rattle.match_theory.proofs.Equal.{term_decides}
use Rattle.tactic_theory.specs.Faults.{cannot_match}
use Rattle.tactic_theory.specs.Refinements.{Part, part, reflexivity_form, symmetry_form}
use Rattle.tac_base.specs.Openings.{Made, made, Opens, measured}
use Rattle.tac_base.specs.Sites.{IsSite}
use Rattle.tac_base.proofs.Answered.{row_opens, headed}
use Rattle.tac_eq.specs.Over.{IsTermOver}

-- ---- indices

-- a term has no binders, so no index of its normal form passes the number of the variables
pub normal_fits : (E : List Declaration) → Environment E → (t : Term) (n : ℕ) → IsTermOver E n t → n < 2 ^ 64
    → term_reach (normal_term E t) ≤ 2 ^ 64
normal_fits E x t n w b = omega (arith, sort_reach E w.0 (normal_term E t) w.1 (normal_sort E x w.0 t w.1 w.2), w.3, b)

pub raised_fits : (E : List Declaration) (t : Term) (n : ℕ) → IsTermOver E n t → n < 2 ^ 64 → term_reach (shift_term 0 1 t) ≤ 2 ^ 64
raised_fits E t n w b = omega (arith, sort_reach E w.0 t w.1 w.2, shift_term_reach 0 1 t, w.3, b)

-- what is made of two sides, of which one is raised and the other the newest variable
pub side_raised : (s : List ℕ) (t v w : Term) → v ≡ shift_term 0 1 t → w ≡ var 0 → equal s v w ≡ equal s (replace_term next t) (var 0)
side_raised s t v w e k = λ i. equal s ((e ∙ ap (λ ρ. replace_term ρ t) (sym next_raise)) i) (k i)

-- ---- rows

module _ (E : List Declaration) (g : Goal) (s : List ℕ) (t u : Term) where
  by_test : (q : Bool) → same_term (normal_term E t) (normal_term E u) ≡ q → reflexivity_form E (equal s t u) ≡ (if q then Ok [] else Err cannot_match)
  by_test q e = ap (λ z. if z then Ok [] else Err cannot_match) e

  -- the sides have one normal form, or they haven't
  sides_agree : normal_term E t ≡ normal_term E u → reflexivity_form E (equal s t u) ≡ Ok []
  sides_agree k = by_test true ((term_decides (normal_term E t) (normal_term E u)).1 k)

  sides_differ : (normal_term E t ≡ normal_term E u → ⊥) → reflexivity_form E (equal s t u) ≡ Err cannot_match
  sides_differ n = go (same_term (normal_term E t) (normal_term E u)) refl (term_decides (normal_term E t) (normal_term E u))
    where
      go : (q : Bool) → same_term (normal_term E t) (normal_term E u) ≡ q → Decides q (normal_term E t ≡ normal_term E u)
          → reflexivity_form E (equal s t u) ≡ Err cannot_match
      go true e d = absurd (n (d.0 refl))
      go false e d = by_test false e

  module _ (q : Same E (equal s t u) g.shown) (w : WellFormed E (variables (entries g.slots)) (equal s t u)) where
    reflexivity_opens : normal_term E t ≡ normal_term E u → Opens E g [] (made (step (eq_i s t) ∷ []) [])
    reflexivity_opens k = record {
      follows = ((w.0, w.1, same_equal E s t t t u refl k ∙ q), tt);
      leaves = refl;
      formulas = refl;
    }

    -- the left side's place is taken by the right one in what reflexivity shows
    symmetry_opens : Opens E g (part [] g.slots (equal s u t) ∷ [])
        (made (step (eq_e s (equal s (replace_term next t) (var 0)) u t) ∷ step (eq_i s t) ∷ leaf (names g.slots) ∷ []) (equal s u t ∷ []))
    symmetry_opens =
        let V : List (List ℕ) = variables (entries g.slots) in
        let B : Formula = equal s (replace_term next t) (var 0) in
        let k : (v : Term) → instantiate B v ≡ equal s t v = λ v i. equal s (term_undo (first v) next (λ j. refl) t i) v in
        record {
          follows = (
            (
              w.0,
              (w.0, replace_sort E next V (s ∷ V) (fits_next E s V) t s w.1, refl),
              (w.0, w.2, w.1),
              subst (λ z. Same E z g.shown) (sym (k u)) q,
            ),
            ((w.0, w.1, subst (Same E (equal s t t)) (sym (k t)) refl), (names_entries g.slots, tt)),
          );
          leaves = λ i. goal (label_names g.slots i) (equal s u t) ∷ [];
          formulas = refl;
        }

-- a goal whose head form it is
module _ (E : List Declaration) (g : Goal) (n : ℕ) (r : IsSite E g n) (s : List ℕ) (t u : Term) (e : head_form E g.shown ≡ equal s t u) where
  known : WellFormed E (variables (entries g.slots)) (equal s t u) × Same E (equal s t u) g.shown
  known = headed E r.environment g.slots g.shown r.formed (equal s t u) e

  pub left_over : IsTermOver E n t
  left_over = (variables (entries g.slots), s, known.0.1, r.counted)

  pub right_over : IsTermOver E n u
  right_over = (variables (entries g.slots), s, known.0.2, r.counted)

  pub by_reflexivity : normal_term E t ≡ normal_term E u → (m : Made) → m ≡ made (step (eq_i s t) ∷ []) []
      → (ps : List Part) × (reflexivity_form E (head_form E g.shown) ≡ Ok ps) × Opens E g ps m
  by_reflexivity k m is = row_opens E g (reflexivity_form E) (head_form E g.shown) (equal s t u) [] m (made (step (eq_i s t) ∷ []) [])
      e (sides_agree E g s t u k) is (reflexivity_opens E g s t u known.1 known.0 k)

  pub not_by_reflexivity : (normal_term E t ≡ normal_term E u → ⊥) → measured E (reflexivity_form E (head_form E g.shown)) ≡ Err cannot_match
  not_by_reflexivity k = ap (λ h. measured E (reflexivity_form E h)) e ∙ ap (measured E) (sides_differ E g s t u k)

  pub by_symmetry : (m : Made) → m ≡ made (step (eq_e s (equal s (replace_term next t) (var 0)) u t) ∷ step (eq_i s t) ∷ leaf (names g.slots) ∷ [])
      (equal s u t ∷ []) → (ps : List Part) × (symmetry_form g.slots (head_form E g.shown) ≡ Ok ps) × Opens E g ps m
  by_symmetry m is = row_opens E g (symmetry_form g.slots) (head_form E g.shown) (equal s t u) (part [] g.slots (equal s u t) ∷ []) m
      (made (step (eq_e s (equal s (replace_term next t) (var 0)) u t) ∷ step (eq_i s t) ∷ leaf (names g.slots) ∷ []) (equal s u t ∷ []))
      e refl is (symmetry_opens E g s t u known.1 known.0)
