use Rattle.std.proofs.Common.{rules}
use Rattle.stm_base.proofs.Puts.{Appends-more}
use Rattle.stm_base.proofs.output.write_all.Goals as goal

pub loop-at-preserved : goal.loop-at-preserved
loop-at-preserved g c = record {
  within = search rules;
  written = Appends-more _ _ _ c.loop-at.at c.in-Ok.n c.args.bytes.now c.loop-at.invariant.written (search rules);
  passed = search rules;
}
