use Rattle.std.proofs.Common.{sym, ap, ◌∙◌, codes}
use Rattle.sexp_theory.specs.Values.{atom}
use Rattle.sexp_theory.specs.Writing.{text}
use Rattle.serapi_ans.specs.Lines.{pair, bad_value}
use Rattle.serapi_ans.proofs.Putting.{put_as}
use Rattle.serapi_ans.proofs.write.put_bad.Goals as goal

pub returns-in-Word : goal.returns-in-Word
returns-in-Word g c =
    put_as c.put_atom.ensures (ap (λ b. text (atom b)) c.as_slice.ensures ∙ ap (λ e. text (bad_value e)) (sym c.in-Word.is))

pub returns-in-BadField : goal.returns-in-BadField
returns-in-BadField g c =
    put_as c.put_named.ensures (ap (λ b. text (pair (codes "BadField") (atom b))) c.as_slice-in-BadField.ensures
    ∙ ap (λ e. text (bad_value e)) (sym c.in-BadField.is))
