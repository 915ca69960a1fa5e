use Rattle.std.proofs.Common.{◌≡◌, ◌≤◌, ◌-◌, false}
use Rattle.session_run.specs.Items.{has_quit}
use Rattle.session_run.specs.Serving.{IsIdle, IsReading, midway}
use Rattle.session_run.specs.Numbers.{INPUT_LIMIT}
use Rattle.session_run.proofs.serve.serve_source.Given as goal

abbrev pub decreases-pieces : goal.decreases-pieces
decreases-pieces g l = INPUT_LIMIT - l.taken

abbrev pub invariant-pieces : goal.invariant-pieces
invariant-pieces g l = let S = g.S.Source in let P = g.P.Party in record {
  reading : IsReading (S.left l.fn.source) (S.left l.source) l.taken (midway (P.asked l.party) l.reader.unread);
  idle : IsIdle l.reader l.taken;
  going : has_quit (P.asked l.party) ≡ false;
  whole : P.left l.party ≡ false;
  ready : P.ready l.party;
  clean : P.clean l.party;
  within : l.taken ≤ INPUT_LIMIT;
  same : S.faults l.source ≡ S.faults l.fn.source;
  goes_on : P.goes_on l.fn.party l.party;
}
