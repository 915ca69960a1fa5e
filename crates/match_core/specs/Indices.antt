-- Indices that may pass those of all variables.
use Rattle.std.specs.Prelude.{◌≡◌, ℕ, ◌≤◌, ◌^◌, Option, Some, None}

-- the index itself, or any that passes those of all variables
abbrev pub Stands : Option ℕ → ℕ → Type 0
Stands (Some i) k = k ≡ i
Stands None k = 2 ^ 64 ≤ k
