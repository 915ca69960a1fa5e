use Rattle.std.proofs.Common.{take}
use Rattle.stm_base.specs.Output.{IsPut}
use Rattle.serapi_ans.specs.Lines.{lines_text}
use Rattle.doc_core.proofs.reply.put_lines.Given as goal

abbrev pub invariant-loop-line : goal.invariant-loop-line
invariant-loop-line g l = IsPut l.initial.out (lines_text (take l.line-index l.lines)) l.out
