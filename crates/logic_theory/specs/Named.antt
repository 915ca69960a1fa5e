-- Trees that name none of the Stated declarations that are left out of an environment.
use Rattle.std.specs.Prelude.{◌≡◌, ℕ, Bool, true, List, [], ◌∷◌}
use Rattle.logic_theory.specs.Rules.{known, Rule, step}

-- each Stated rule names a declaration that is kept
abbrev pub UsesKept : (List ℕ → Bool) → List Rule → Type 0
UsesKept keep [] = Unit {0}
UsesKept keep (step (known n) ∷ rs) = (keep n ≡ true) × UsesKept keep rs
UsesKept keep (r ∷ rs) = UsesKept keep rs
