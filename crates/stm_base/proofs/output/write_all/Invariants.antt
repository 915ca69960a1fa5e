use Rattle.std.proofs.Common.{◌≡◌, ◌≤◌, ◌-◌, length, take}
use Rattle.std.specs.Io.KnownBytes.{Appends}
use Rattle.stm_base.proofs.output.write_all.Given as goal

abbrev pub decreases-loop-at : goal.decreases-loop-at
decreases-loop-at g l = length l.bytes - l.at

abbrev pub invariant-loop-at : goal.invariant-loop-at
invariant-loop-at g l = let K = g.K.Sink in record {
  within : l.at ≤ length l.bytes;
  written : Appends (K.written l.fn.sink) (K.written l.sink) (take l.at l.bytes);
  passed : K.faults l.sink ≡ K.faults l.fn.sink;
}
