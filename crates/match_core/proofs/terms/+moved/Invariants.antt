use Rattle.std.proofs.Common.{◌≡◌, take, length, map}
use Rattle.term_core.specs.Term.{meaning}
use Rattle.match_core.proofs.Moved.{each}
use Rattle.match_core.proofs.terms.+moved.Given as goal

abbrev pub invariant-are_moved-loop-i : goal.invariant-are_moved-loop-i
invariant-are_moved-loop-i l =
    (length l.ts ≡ length l.us) × (map (each l.lowered l.raised) (take l.i l.ts) ≡ map meaning (take l.i l.us))
