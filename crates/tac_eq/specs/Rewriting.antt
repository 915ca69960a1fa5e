-- The rules by which one side of an equation takes the place of the other.
use Rattle.std.specs.Prelude.{◌≡◌, ◌<◌, ℕ, suc, Bool, true, false, List, [], ◌∷◌, ◌++◌}
use Rattle.fol_theory.specs.Syntax.{Term, var, Formula, equal}
use Rattle.fol_theory.specs.Substitution.{replace_term, next}
use Rattle.fol_theory.specs.Slots.{Slot, names}
use Rattle.logic_theory.specs.Rules.{Rule, leaf, step, eq_i, eq_e}
use Rattle.match_theory.specs.Instances.{fill}
use Rattle.match_theory.specs.Places.{abstracted}

-- the equation by which t gives way to u, as it stands, or the other way round
abbrev pub oriented : Bool → List ℕ → Term → Term → Formula
oriented false q t u = equal q t u
oriented true q t u = equal q u t

-- the rules that lead from t = u to the equation as it stands
abbrev pub turning : Bool → List ℕ → Term → Term → List Rule
turning false q t u = []
turning true q t u = step (eq_e q (equal q (replace_term next t) (var 0)) u t) ∷ step (eq_i q t) ∷ []

-- the rules that lead from a goal to the one with u for t, which is left open, and to the equation as it stands, which others prove
abbrev pub rewriting : Bool → List ℕ → Term → Term → List Slot → Formula → List Rule → List Rule
rewriting back q t u c g rs = step (eq_e q (abstracted 0 t g) t u) ∷ leaf (names c) ∷ (turning back q t u ++ rs)

-- terms for variables by which each variable below n becomes the next one, and n the first
abbrev pub Turns : ℕ → List Term → Type 0
Turns n ts = ((i : ℕ) → i < n → fill ts i ≡ var (suc i)) × (fill ts n ≡ var 0)
