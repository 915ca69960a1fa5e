use Rattle.std.proofs.Common.{◌∙◌}
use Rattle.std.proofs.lemmas.Result.{IfOk-weaker}
use Rattle.match_core.proofs.Known.{found_whole}
use Rattle.match_core.proofs.found.term_of.Goals as goal

pub returns-then-found-eq0 : goal.returns-then-found-eq0
returns-then-found-eq0 c =
    IfOk-weaker c.copy.result _ _ (λ t h. h ∙ found_whole c.args.found.now c.if-found-eq0.true) c.copy.ensures
