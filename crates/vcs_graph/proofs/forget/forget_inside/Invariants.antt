use Rattle.std.proofs.Common.{◌≡◌, ℕ, List, ◌++◌, take}
use Rattle.vcs_graph.specs.declared.place.Place.{Place}
use Rattle.vcs_graph.specs.Table.{IsTable, inner_places}
use Rattle.vcs_graph.proofs.forget.forget_inside.Given as goal

abbrev pub invariant-loop-inside : goal.invariant-loop-inside
invariant-loop-inside l = (take l.keep l.inside.items ≡ take l.keep l.initial.inside.items)
    × ((k : ℕ) (x y : List (ℕ × Place)) → IsTable l.initial.places (x ++ (inner_places k 1 l.initial.inside.items ++ y)) →
    IsTable l.places (x ++ (inner_places k 1 l.inside.items ++ y)))

abbrev pub decreases-loop-inside : goal.decreases-loop-inside
decreases-loop-inside l = goal.left-loop-inside l
