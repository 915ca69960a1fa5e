-- Where the machine stands at formulas.
use Rattle.std.specs.Prelude.{◌≡◌, ℕ, ◌≤◌, ◌^◌, List, length, None}
use Rattle.fol_theory.specs.Syntax.{Formula, truth, falsity, pred, equal, both, either, implies, all, ex}
use Rattle.fol_theory.specs.Measures.{reach}
use Rattle.term_core.specs.Formula.{meaning}
use Rattle.env_theory.specs.Declarations.{Declaration, find}
use Rattle.env_theory.specs.Scopes.{Scope, under, formula_value}
use Rattle.env_theory.specs.Machine.{ReadsFormula, formula_left, formula_body}
use Rattle.conv_core.specs.declared.frame.Frame.{Frame}
use Rattle.conv_core.specs.declared.formula.Place.{Place}
use Rattle.conv_core.specs.Frames.{scope_of, Ordered}

-- no definition is left to put in at the head
abbrev pub Rigid : List Declaration → Formula → Type 0
Rigid E truth = Unit {0}
Rigid E falsity = Unit {0}
Rigid E (pred p ts) = formula_body (find E p) ≡ None
Rigid E (equal s t u) = Unit {0}
Rigid E (both a b) = Unit {0}
Rigid E (either a b) = Unit {0}
Rigid E (implies a b) = Unit {0}
Rigid E (all s x a) = Unit {0}
Rigid E (ex s x a) = Unit {0}

-- a formula may be read in a scope, and each index of its value is below 2 ^ 64
abbrev pub Scoped : List Declaration → Scope → Formula → Type 0
Scoped E c a = ReadsFormula E c a × (reach (formula_value E c a) ≤ 2 ^ 64)

-- a formula may be read in the scope with this number
abbrev pub StandingFormula : List Declaration → List Frame → ℕ → Formula → Type 0
StandingFormula E fs c a = Ordered fs × (c ≤ length fs) × Scoped E (scope_of fs c) a

-- the same under one quantifier more
abbrev pub StandingBelow : List Declaration → List Frame → ℕ → Formula → Type 0
StandingBelow E fs c a = Ordered fs × (c ≤ length fs) × Scoped E (under (scope_of fs c)) a

-- the place of the same value where no definition is left at the head
abbrev pub HeadedFormula : List Declaration → List Frame → Scope → Formula → Place → Type 0
HeadedFormula E gs c a p = (formula_value E (scope_of gs p.scope) (meaning p.formula.now) ≡ formula_value E c a)
    × (formula_left E (scope_of gs p.scope) (meaning p.formula.now) ≤ formula_left E c a) ×
    StandingFormula E gs p.scope (meaning p.formula.now) × Rigid E (meaning p.formula.now)
