-- Terms and formulas over variables that are counted.
use Rattle.std.specs.Prelude.{◌≤◌, ℕ, List, length}
use Rattle.fol_theory.specs.Syntax.{Term, Formula}
use Rattle.env_theory.specs.Declarations.{Declaration}
use Rattle.env_theory.specs.Typing.{HasSort, WellFormed}

-- a term has a sort over no more than so many variables
abbrev pub IsTermOver : List Declaration → ℕ → Term → Type 0
IsTermOver E n t = (V : List (List ℕ)) × (s : List ℕ) × HasSort E V t s × (length V ≤ n)

-- a formula is well formed over no more than so many
abbrev pub IsOver : List Declaration → ℕ → Formula → Type 0
IsOver E n a = (V : List (List ℕ)) × WellFormed E V a × (length V ≤ n)
