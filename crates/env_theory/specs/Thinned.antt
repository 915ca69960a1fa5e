-- An environment with fewer Stated declarations.
use Rattle.std.specs.Prelude.{ℕ, Bool, if◌then◌else◌, List, [], ◌∷◌, Option, Some, None}
use Rattle.env_theory.specs.Declarations.{Declaration, stated}

-- the environment without the Stated declarations whose names the test doesn't keep
abbrev pub thinned : (List ℕ → Bool) → List Declaration → List Declaration
thinned keep [] = []
thinned keep (stated n a ∷ E) = if keep n then stated n a ∷ thinned keep E else thinned keep E
thinned keep (d ∷ E) = d ∷ thinned keep E

-- what is declared is something else than a Stated formula
abbrev pub IsOther : Option Declaration → Type 0
IsOther None = ⊥
IsOther (Some (stated n a)) = ⊥
IsOther (Some d) = Unit {0}
