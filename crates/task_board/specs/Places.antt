-- Numbers at places, and the least of them.
use Rattle.std.specs.Prelude.{ℕ, ◌==◌, min, List, [], ◌∷◌, if◌then◌else◌, Option, Some, None}

-- what stands at a place that has no number
abbrev pub nothing : ℕ
nothing = 18446744073709551615

-- the least of the numbers, or nothing where there is none
abbrev pub least_of : List ℕ → ℕ
least_of [] = nothing
least_of (n ∷ ns) = min n (least_of ns)

-- the least number, if there is one
abbrev pub least_number : List ℕ → Option ℕ
least_number ns = if least_of ns == nothing then None else Some (least_of ns)
