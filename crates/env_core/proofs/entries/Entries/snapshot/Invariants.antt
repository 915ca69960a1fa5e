use Rattle.std.proofs.Common.{◌≡◌, [], take}
use Rattle.env_core.specs.Layers.{stacked}
use Rattle.env_core.proofs.entries.Entries.snapshot.Given as goal

abbrev pub invariant-loop-layer : goal.invariant-loop-layer
invariant-loop-layer l = stacked [] l.layers.items ≡ stacked [] (take l.layer-index l.layer-items)
