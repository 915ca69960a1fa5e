use Rattle.std.proofs.Common.{subst}
use Rattle.vern_parse.specs.Meaning.{expression}
use Rattle.tactic_theory.specs.Evidence.{is_met}
use Rattle.tactic_theory.specs.Refinements.{exact}
use Rattle.tactic_theory.specs.Typing.{evidence_of}
use Rattle.tac_base.specs.Openings.{Answers}
use Rattle.tac_base.specs.Sites.{env_of, goal_at}
use Rattle.tac_core.proofs.Exacts.{evidence_answered, exact_row}
use Rattle.tac_core.proofs.exact.exact.Goals as goal

pub returns-in-Ok : goal.returns-in-Ok
returns-in-Ok c =
    let E = env_of c.args.site.now in
    let g = goal_at c.args.site.now in
    let r = c.in-Ok.ensures in
    evidence_answered E g (evidence_of E g.slots (expression c.args.raw.now)) (λ e. exact e) r.0 r.1 c.closed_by.result
    (subst (Answers E g c.closed_by.result) (exact_row E g r.0 c.in-Ok.evidence r.2) (c.closed_by.ensures (is_met E g.slots r.0) r.2.met))
