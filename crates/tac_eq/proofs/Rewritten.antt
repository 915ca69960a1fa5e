-- The tree that leads from a goal to the same goal with one side of an equation for the other.
use Rattle.std.proofs.Common.{◌≡◌, ℕ, Bool, true, false, List, [], ◌∷◌, ◌++◌, refl, sym, ap}
use Rattle.fol_theory.specs.Syntax.{Term, Formula, equal}
use Rattle.fol_theory.specs.Substitution.{replace_term, next, first, instantiate}
use Rattle.fol_theory.specs.Contexts.{variables}
use Rattle.fol_theory.specs.Slots.{Slot, entries}
use Rattle.fol_theory.specs.Printing.{unnamed}
use Rattle.fol_theory.proofs.Laws.{term_undo}
use Rattle.match_theory.specs.Places.{abstracted}
use Rattle.match_theory.proofs.Placed.{abstracted_back}
use Rattle.env_theory.specs.Declarations.{Declaration, find}
use Rattle.env_theory.specs.Typing.{IsSort, HasSort, WellFormed}
use Rattle.env_theory.specs.Normal.{normal}
use Rattle.env_theory.proofs.Sorts.{replace_sort, fits_next}
use Rattle.logic_theory.specs.Goals.{Goal, goal, goals}
use Rattle.logic_theory.specs.Rules.{Rule, seq, Follows}
use Rattle.logic_theory.proofs.Grafting.{label_names, names_entries}
use Rattle.tac_eq.specs.Rewriting.{oriented, turning, rewriting}
use Rattle.tac_eq.proofs.Marked.{abstracted_formed}

-- a tree of these rules leads from a formula to these goals
abbrev pub Reaches : List Declaration → List Slot → List Rule → Formula → List Goal → Type 0
Reaches E c rs a hs = Follows E rs (seq (entries c) a ∷ []) × (goals rs (seq (entries c) a ∷ []) ≡ hs)

module _ (E : List Declaration) (c : List Slot) (q : List ℕ) (declared : IsSort (find E q)) (t u : Term)
    (x : HasSort E (variables (entries c)) t q) (y : HasSort E (variables (entries c)) u q) (rs : List Rule) (hs : List Goal) where
  -- from the equation to the one as it stands
  turned : (back : Bool) → Reaches E c rs (oriented back q t u) hs → Reaches E c (turning back q t u ++ rs) (equal q t u) hs
  turned false lead = lead
  turned true lead =
      let V : List (List ℕ) = variables (entries c) in
      let is : (v : Term) → equal q (replace_term (first v) (replace_term next t)) v ≡ equal q t v =
      λ v i. equal q (term_undo (first v) next (λ j. refl) t i) v in (
        (
          (
            declared,
            (declared, replace_sort E next V (q ∷ V) (fits_next E q V) t q x, refl),
            (declared, y, x),
            ap (λ z. unnamed (normal E z)) (is u),
          ),
          ((declared, x, ap (λ z. unnamed (normal E z)) (sym (is t))), lead.0),
        ),
        lead.1,
      )

  -- and from the goal, of which the one that is rewritten is left open
  pub rewrites : (back : Bool) → Reaches E c rs (oriented back q t u) hs → (g : Formula) → WellFormed E (variables (entries c)) g
      → Reaches E c (rewriting back q t u c g rs) g (goal c (instantiate (abstracted 0 t g) u) ∷ hs)
  rewrites back lead g w =
      let V : List (List ℕ) = variables (entries c) in
      let to = turned back lead in (
        (
          (declared, abstracted_formed E V t q x g w, (declared, x, y), ap (λ z. unnamed (normal E z)) (abstracted_back t g)),
          (names_entries c, to.0),
        ),
        λ i. goal (label_names c i) (instantiate (abstracted 0 t g) u) ∷ to.1 i,
      )
