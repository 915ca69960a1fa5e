use Rattle.std.proofs.Common.{◌≡◌, ◌+◌, [], take, length}
use Rattle.env_core.specs.Layers.{stacked}
use Rattle.env_core.proofs.entries.Entries.at.Given as goal

abbrev pub invariant-loop-layer : goal.invariant-loop-layer
invariant-loop-layer l = l.left + length (stacked [] (take l.layer-index l.layer-items)) ≡ l.number
