-- What each variable counts.
use Rattle.std.specs.Prelude.{ℕ, nat_lt, if◌then◌else◌}
use Rattle.env_core.specs.declared.sizes.Weights.{Weights}
use Rattle.env_core.specs.declared.sizes.Weights.TheVariants.{Each, Below}
use Rattle.env_theory.specs.Count.{each}

-- 1 below an index, else 0
abbrev pub below : ℕ → ℕ → ℕ
below b i = if nat_lt i b then 1 else 0

-- what each variable counts by such weights
abbrev pub weights_of : Weights → ℕ → ℕ
weights_of Each = each
weights_of (Below b) = below b
