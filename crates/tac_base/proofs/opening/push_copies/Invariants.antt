use Rattle.std.proofs.Common.{◌≡◌, ◌++◌, map, take}
use Rattle.tac_base.proofs.opening.push_copies.Given as goal

abbrev pub invariant-loop-name : goal.invariant-loop-name
invariant-loop-name l = l.all.items ≡ l.fn.all.items ++ map (λ n. n.now) (take l.name-index l.newer)
