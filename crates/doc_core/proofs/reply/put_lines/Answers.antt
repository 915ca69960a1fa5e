use Rattle.std.proofs.Common.{subst, rules}
use Rattle.stm_base.specs.Output.{IsPut}
use Rattle.serapi_ans.specs.Lines.{line_text}
use Rattle.doc_core.proofs.Lines.{put_line}
use Rattle.doc_core.proofs.reply.put_lines.Goals as goal

pub loop-line-preserved : goal.loop-line-preserved
loop-line-preserved g c =
    put_line c.args.lines.now c.loop-line.line-index c.line-item.result (search rules) c.loop-line.invariant
    (subst (λ l. IsPut c.loop-line.out (line_text l) c.write_line.new.out) c.line-item.is c.write_line.ensures)
