use Rattle.std.proofs.Common.{rules}
use Rattle.lock_trial.proofs.Noted.{writes_more}
use Rattle.lock_trial.proofs.threads.write_notes.Goals as goal

pub loop-what-preserved : goal.loop-what-preserved
loop-what-preserved g c = let inv = c.loop-what.invariant in record {
  idle = search rules;
  same = search rules;
  written = writes_more c.args.seat.now.view.number c.loop-what.seat.view.number c.loop-what.what _ _ inv.idle.1 inv.written
      c.in_ok-write_note.ensures.mine;
}
