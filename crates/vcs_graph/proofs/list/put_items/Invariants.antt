use Rattle.std.proofs.Common.{◌≡◌, ◌≤◌, ◌+◌, ◌++◌, take, length}
use Rattle.line_theory.specs.Lines.{items_ids}
use Rattle.vcs_graph.proofs.list.put_items.Given as goal

abbrev pub invariant-loop-item : goal.invariant-loop-item
invariant-loop-item l = (l.list.items ≡ l.initial.list.items ++ items_ids (take l.item-index l.items)) ×
    (l.initial.list.spare ≤ l.list.spare + length (items_ids (take l.item-index l.items)))
