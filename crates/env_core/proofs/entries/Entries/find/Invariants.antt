use Rattle.std.proofs.Common.{◌≡◌, [], take, None}
use Rattle.env_core.specs.Layers.{found, stacked}
use Rattle.env_core.proofs.entries.Entries.find.Given as goal

abbrev pub invariant-loop-layer : goal.invariant-loop-layer
invariant-loop-layer l = found (stacked [] (take l.layer-index l.layer-items)) l.name ≡ None
