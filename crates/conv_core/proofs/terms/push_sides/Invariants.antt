use Rattle.std.proofs.Common.{◌≡◌, ◌-◌, ◌≤◌, List, ◌++◌, length, take}
use Rattle.conv_core.specs.declared.pair.Pair.{Pair}
use Rattle.conv_core.specs.Pairs.{Aligned}
use Rattle.conv_core.proofs.terms.push_sides.Given as goal

abbrev pub invariant-loop-i : goal.invariant-loop-i
invariant-loop-i l = (length l.ts ≡ length l.us) × (l.i ≤ length l.ts) ×
    ((left : List Pair) × (l.stack.items ≡ l.fn.stack.items ++ left)
    × Aligned l.first_scope l.first_by (take l.i l.ts) l.second_scope l.second_by (take l.i l.us) left)

abbrev pub decreases-loop-i : goal.decreases-loop-i
decreases-loop-i l = length l.ts - l.i
