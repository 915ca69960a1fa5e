-- One of the terms that are read.
use Rattle.std.proofs.Common.{◌≡◌, ℕ, zero, suc, ◌<◌, ◌≤◌, List, [], ◌∷◌, ◌++◌, length, get_or, take, map, sym, ap, subst, ◌∙◌, arith}
use Rattle.std.proofs.lemmas.Grind.{common_steps}
use Rattle.fol_theory.specs.Syntax.{cons, terms}
use Rattle.fol_theory.specs.Measures.{term_reach, terms_reach}
use Rattle.env_theory.specs.Declarations.{Declaration}
use Rattle.env_theory.specs.Typing.{HasSort, HaveSorts}
use Rattle.env_theory.specs.Scopes.{Scope, CostRow, cost, costs, value, values}
use Rattle.env_theory.specs.Machine.{left, lefts}
use Rattle.env_theory.proofs.Values.{values_cons, values_nil}
use Rattle.term_core.specs.declared.term.Term.{Term}
use Rattle.term_core.specs.Term.{meaning, list_meaning}
use Rattle.conv_core.specs.declared.frame.Frame.{Frame}
use Rattle.conv_core.specs.Frames.{scope_of, Extends}
use Rattle.conv_core.specs.Heads.{Standing, StandingAll}

none : {A : Type 0} (i : ℕ) → i < 0 → A
none i h = absurd (omega (arith, h))

element_sort : (E : List Declaration) (V : List (List ℕ)) (ts : List Term) (ss : List (List ℕ)) (i : ℕ) (t : Term)
    → HaveSorts E V (list_meaning ts) ss → i < length ts → t ≡ get_or ts i t → (s : List ℕ) × HasSort E V (meaning t) s
element_sort E V [] ss i t h l e = none i l
element_sort E V (u ∷ us) [] i t h l e = absurd h
element_sort E V (u ∷ us) (s ∷ ss) zero t h l e = (s, subst (λ z. HasSort E V (meaning z) s) (sym e) h.0)
element_sort E V (u ∷ us) (s ∷ ss) (suc i) t h l e = element_sort E V us ss i t h.1 (omega (arith, l)) e

element_cost : (R : List CostRow) (w : ℕ → ℕ) (ts : List Term) (i : ℕ) (t : Term) → i < length ts → t ≡ get_or ts i t
    → cost R w (meaning t) ≤ costs R w (list_meaning ts)
element_cost R w [] i t l e = none i l
element_cost R w (u ∷ us) zero t l e = subst (λ z. cost R w (meaning z) ≤ costs R w (list_meaning (u ∷ us))) (sym e) (omega arith)
element_cost R w (u ∷ us) (suc i) t l e = omega (arith, element_cost R w us i t (omega (arith, l)) e)

element_reach : (E : List Declaration) (c : Scope) (by : ℕ) (ts : List Term) (i : ℕ) (t : Term) → i < length ts → t ≡ get_or ts i t
    → term_reach (value E c by (meaning t)) ≤ terms_reach (values E c by (list_meaning ts))
element_reach E c by [] i t l e = none i l
element_reach E c by (u ∷ us) zero t l e = subst (λ z. term_reach (value E c by (meaning z)) ≤ terms_reach (values E c by
    (list_meaning (u ∷ us)))) (sym e)
    (subst (λ z. term_reach (value E c by (meaning u)) ≤ terms_reach z) (sym (values_cons E c by (meaning u) (list_meaning us)))
    (omega arith))
element_reach E c by (u ∷ us) (suc i) t l e = let k = element_reach E c by us i t (omega (arith, l)) e in
    subst (λ z. term_reach (value E c by (meaning t)) ≤ terms_reach z) (sym (values_cons E c by (meaning u) (list_meaning us))) (omega
    (arith, k))

pub element : (E : List Declaration) (fs : List Frame) (c by : ℕ) (ts : List Term) (i : ℕ) (t : Term)
    → StandingAll E fs c by (list_meaning ts) → i < length ts → t ≡ get_or ts i t →
    Standing E fs c by (meaning t) × (left E (scope_of fs c) (meaning t) ≤ lefts E (scope_of fs c) (list_meaning ts))
element E fs c by ts i t s l e =
    let h = element_sort E s.2.0 ts s.2.1 i t s.2.3 l e in
    let r = element_reach E (scope_of fs c) by ts i t l e in
    ((s.0, s.1, (s.2.0, h.0, s.2.2, h.1), s.3, omega (arith, r, s.4)), element_cost _ _ ts i t l e)

pub values_each : (E : List Declaration) (c : Scope) (by : ℕ) (ts : List Term) → values E c by (list_meaning ts)
    ≡ terms (map (value E c by) (map meaning ts))
values_each E c by [] = values_nil E c by
values_each E c by (t ∷ ts) = values_cons E c by (meaning t) (list_meaning ts)
    ∙ ap (cons (value E c by (meaning t))) (values_each E c by ts)

pub all_made : (E : List Declaration) (c : Scope) (by : ℕ) (ts part us : List Term) → part ≡ ts → map meaning us
    ≡ map (value E c by) (map meaning part) → list_meaning us ≡ values E c by (list_meaning ts)
all_made E c by ts part us e h = ap terms h ∙ ap (λ l. terms (map (value E c by) (map meaning l))) e ∙ sym (values_each E c by ts)

-- the first of longer frames
pub cut : (fs gs : List Frame) (n : ℕ) → Extends fs gs → n ≡ length fs → take n gs ≡ fs
cut fs gs n (hs, e) k = ap (take n) e ∙ ap (λ m. take m (fs ++ hs)) k ∙ taken fs hs
  where
    taken : (fs hs : List Frame) → take (length fs) (fs ++ hs) ≡ fs
    taken fs hs = grind (arith, common_steps)
