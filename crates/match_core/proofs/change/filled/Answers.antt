use Rattle.std.proofs.Common.{◌-◌, length, sym, ◌∙◌}
use Rattle.match_core.proofs.Lowered.{meaning_Var}
use Rattle.match_core.proofs.TermChanges.{filled_large}
use Rattle.match_core.proofs.change.filled.Goals as goal

pub returns-else-open-len : goal.returns-else-open-len
returns-else-open-len c =
    meaning_Var (c.args.i - length c.args.terms.now)
    ∙ sym (filled_large c.args.terms.now c.args.binders c.args.i c.if-i-binders.false c.if-open-len.false)
