-- How many open leaves a tree has.
use Rattle.std.specs.Prelude.{ℕ, suc, List, [], ◌∷◌}
use Rattle.logic_theory.specs.Rules.{Rule, leaf, step}

-- the open leaves among rules
abbrev pub open_leaves : List Rule → ℕ
open_leaves [] = 0
open_leaves (leaf ns ∷ rs) = suc (open_leaves rs)
open_leaves (step r ∷ rs) = open_leaves rs
