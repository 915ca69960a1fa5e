use Rattle.std.proofs.Common.{◌≡◌, take, map}
use Rattle.term_core.specs.Term.{meaning}
use Rattle.match_core.specs.Changes.{term_changed}
use Rattle.match_core.proofs.change.+change.Given as goal

abbrev pub invariant-changed_all-loop-i : goal.invariant-changed_all-loop-i
invariant-changed_all-loop-i l =
    map meaning (take l.i l.ts) ≡ map (term_changed l.change l.binders) (map meaning (take l.i l.ts))

abbrev pub invariant-changed_behind-loop-i : goal.invariant-changed_behind-loop-i
invariant-changed_behind-loop-i l =
    map meaning l.made.items ≡ map (term_changed l.change l.binders) (map meaning (take l.i l.ts))
