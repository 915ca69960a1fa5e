use Rattle.std.proofs.Common.{sym, ap, ◌∙◌, Some}
use Rattle.serapi_ans.specs.declared.line.Line.TheVariants as lines
use Rattle.serapi_ans.specs.Lines.{line_text}
use Rattle.serapi_ans.proofs.Putting.{put_as}
use Rattle.serapi_ans.proofs.write.write_verdict.Goals as goal

pub returns-in-None : goal.returns-in-None
returns-in-None g c =
    put_as c.write_feedback.ensures (ap (λ v. line_text (lines.Feedback c.args.id c.args.route v)) (sym c.in-None.is))

pub returns-in-Some : goal.returns-in-Some
returns-in-Some g c =
    put_as c.write_feedback-in-Some.ensures
    (ap (λ b. line_text (lines.Feedback c.args.id c.args.route (Some b))) c.as_slice.ensures
    ∙ ap (λ v. line_text (lines.Feedback c.args.id c.args.route v)) (sym c.in-Some.is))
