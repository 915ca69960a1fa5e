-- Terms without free variables.
use Rattle.std.proofs.Common.{◌≡◌, ◌≤◌, ◌^◌, ℕ, List, [], subst, arith}
use Rattle.fol_theory.specs.Syntax.{Term}
use Rattle.fol_theory.specs.Contexts.{variables}
use Rattle.fol_theory.specs.Measures.{term_reach}
use Rattle.fol_theory.specs.Slots.{Slot, entries}
use Rattle.env_theory.specs.Declarations.{Declaration}
use Rattle.env_theory.specs.Typing.{Environment, HasSort}
use Rattle.env_theory.specs.Normal.{normal_term}
use Rattle.env_theory.proofs.Sorts.{sort_reach}
use Rattle.env_theory.proofs.Keeps.{normal_sort}

-- a term over no slots has no variable
pub closed : (E : List Declaration) (c : List Slot) (t : Term) (s : List ℕ) → c ≡ [] → HasSort E (variables (entries c)) t s → HasSort E [] t s
closed E c t s e h = subst (λ d. HasSort E (variables (entries d)) t s) e h

-- and neither has its normal form
pub closed_fits : (E : List Declaration) → Environment E → (t : Term) (s : List ℕ) → HasSort E [] t s → term_reach (normal_term E t) ≤ 2 ^ 64
closed_fits E e t s h = let r = sort_reach E [] (normal_term E t) s (normal_sort E e [] t s h) in omega (arith, r)
