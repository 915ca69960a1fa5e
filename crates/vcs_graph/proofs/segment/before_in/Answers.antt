use Rattle.std.proofs.Common.{ap, min, length, take, ◌-◌, ◌∙◌, arith}
use Rattle.line_theory.specs.Lists.{last_or}
use Rattle.vcs_graph.proofs.Lasts.{before_some, before_all, pred_is}
use Rattle.vcs_graph.proofs.segment.before_in.Goals as goal
use Rattle.vcs_graph.proofs.segment.before_in.Goals.{in-Inside, in-Closer}

pub returns-else-number-eq0 : goal.returns-else-number-eq0
returns-else-number-eq0 c = elim c.match-part.branch [
  | in-Inside w ↦ rw w.in-Inside.is (
      before_some c.args.lemma (w.in-Inside.number - 1) c.match-part.number c.args.inside.now (w.number-is ∙
      (w.min-number.ensures ∙ ap (λ z. min z (length c.args.inside.now)) w.saturating_sub.ensures)) (omega arith)
      ∙ ap (λ z. last_or c.args.lemma (take z c.args.inside.now)) (pred_is w.in-Inside.number))
  | in-Closer w ↦ rw w.in-Closer.is (before_all c.args.lemma c.match-part.number c.args.inside.now w.number-is (omega arith))
]
