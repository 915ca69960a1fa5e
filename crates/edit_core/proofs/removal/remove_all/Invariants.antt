use Rattle.std.proofs.Common.{◌≡◌, ◌≤◌, ◌+◌, length}
use Rattle.line_theory.specs.Lines.{ids}
use Rattle.edit_core.proofs.Runs.{Running}
use Rattle.edit_core.proofs.removal.remove_all.Given as goal

abbrev pub invariant-loop-id : goal.invariant-loop-id
invariant-loop-id l = Running l.list l.id-index l.initial.graph l.graph l.initial.edits.items l.edits.items
    l.initial.removed.items l.removed.items l.treated
    × ((l.treated ≡ l.id-index) × ((length (ids l.graph) ≤ l.removed.spare) × (length l.list ≤ l.edits.spare + l.id-index)))
