use Rattle.std.proofs.Common.{◌≡◌}
use Rattle.env_core.proofs.Stacked.{layer_copied}
use Rattle.env_core.proofs.entries.Entries.snapshot.Goals as goal

pub loop-layer-preserved : goal.loop-layer-preserved
loop-layer-preserved c =
    layer_copied c.deref-layer-items.result.now c.loop-layer.layers.items c.push.new.self.items c.loop-layer.layer-index c.layer-item.result
    c.in_ok-try_clone.field-0 c.in_ok-push.ensures.items c.in_ok-try_clone.ensures c.loop-layer.invariant c.loop-layer-test.true
    c.layer-item.is
