use Rattle.std.proofs.Common.{ap, ◌∙◌}
use Rattle.logic_theory.specs.Rules.{step, hyp}
use Rattle.tac_base.specs.Openings.{with_rule}
use Rattle.tac_base.specs.Sites.{env_of, goal_at}
use Rattle.tac_core.proofs.Exacts.{hypothesis_answers}
use Rattle.tac_core.proofs.exact.by_hypothesis.Goals as goal

pub returns-in_ok-opening-in-Some : goal.returns-in_ok-opening-in-Some
returns-in_ok-opening-in-Some c =
    let found = rw c.in-Some.is at c.in_ok-same_hypothesis.ensures in
    hypothesis_answers (env_of c.args.site.now) (goal_at c.args.site.now) c.in-Some.number found.0 c.in_ok-opening-in-Some.opening found.1
    found.2 (c.in_ok-opening-in-Some.ensures ∙ c.in_ok-draft-in-Some.ensures ∙ ap (with_rule (step (hyp c.in-Some.number))) c.new.ensures)
