use Rattle.std.proofs.Common.{◌∙◌}
use Rattle.std.proofs.lemmas.Result.{IfOk-weaker}
use Rattle.term_core.specs.Formula.{meaning}
use Rattle.match_core.proofs.FormulaChanges.{exchanged_whole}
use Rattle.match_core.proofs.formulas.replace_all.Goals as goal

pub returns : goal.returns
returns c =
    let e = c.in_ok-changed_formula.ensures ∙ exchanged_whole c.args.from c.args.to (meaning c.args.a.now) in
    IfOk-weaker c.or_copied.result _ _ (λ r h. h ∙ e) c.or_copied.ensures
