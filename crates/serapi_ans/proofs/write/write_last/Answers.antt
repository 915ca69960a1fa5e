use Rattle.std.proofs.Common.{◌++◌, append-nil, sym, ap, ◌∙◌}
use Rattle.serapi_ans.specs.declared.line.Line.TheVariants as lines
use Rattle.serapi_ans.specs.Lines.{line_text, lines_text, last_lines}
use Rattle.serapi_ans.proofs.Putting.{put_as, both}
use Rattle.serapi_ans.proofs.write.write_last.Goals as goal

pub returns-then-short : goal.returns-then-short
returns-then-short g c =
    put_as (both c.write_word.ensures c.write_word-then-short.ensures)
    (ap (λ l. line_text (lines.OutOfMemory c.args.tag.now) ++ l) (sym (append-nil (line_text (lines.Completed c.args.tag.now))))
    ∙ ap (λ s. lines_text (last_lines c.args.tag.now s)) (sym c.if-short.true))

pub returns-else-short : goal.returns-else-short
returns-else-short g c =
    put_as c.write_word-else-short.ensures
    (sym (append-nil (line_text (lines.Completed c.args.tag.now)))
    ∙ ap (λ s. lines_text (last_lines c.args.tag.now s)) (sym c.if-short.false))
