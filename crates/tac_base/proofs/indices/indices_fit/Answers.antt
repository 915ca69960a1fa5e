use Rattle.std.proofs.Common.{map, sym, ap, ◌∙◌}
use Rattle.term_core.specs.Formula.{meaning}
use Rattle.tac_base.proofs.Bounded.{fitting}
use Rattle.tac_base.proofs.indices.indices_fit.Goals as goal

pub returns : goal.returns
returns c = λ E p g l h w. fitting E p (λ r. r.now) c.deref.result.now c.args.tree.now (meaning c.args.goal.now) c.args.most c.len.result
    (ap (map (λ r. r.now)) c.deref.ensures.value ∙ c.in_ok-rules.ensures) (c.len.ensures ∙ sym c.deref.ensures.len) g l h w
    (c.is_low.ensures c.if-not-is_low.false) (c.are_low.ensures c.if-not-are_low.false) c.in_ok-room.ensures
