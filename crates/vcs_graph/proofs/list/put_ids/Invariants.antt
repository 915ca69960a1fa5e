use Rattle.std.proofs.Common.{◌≡◌, ◌≤◌, ◌+◌, ◌++◌, take}
use Rattle.vcs_graph.proofs.list.put_ids.Given as goal

abbrev pub invariant-loop-id : goal.invariant-loop-id
invariant-loop-id l = (l.list.items ≡ l.initial.list.items ++ take l.id-index l.ids) × (l.initial.list.spare ≤ l.list.spare + l.id-index)
