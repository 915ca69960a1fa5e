use Rattle.std.proofs.Common.{sym, ap}
use Rattle.sexp_theory.specs.Writing.{text}
use Rattle.serapi_ans.specs.Lines.{edit_value}
use Rattle.serapi_ans.proofs.Putting.{put_as}
use Rattle.serapi_ans.proofs.write.put_edit.Goals as goal

pub returns-in-NewTip : goal.returns-in-NewTip
returns-in-NewTip g c =
    put_as c.put_numbered.ensures (ap (λ e. text (edit_value e)) (sym c.in-NewTip.is))

pub returns-in-Focus : goal.returns-in-Focus
returns-in-Focus g c =
    put_as c.put_focus.ensures (ap (λ e. text (edit_value e)) (sym c.in-Focus.is))
