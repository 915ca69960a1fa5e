use Rattle.std.proofs.Common.{map, true≢false, sym, ◌∙◌}
use Rattle.term_core.specs.Formula.{meaning}
use Rattle.proof_tree.specs.Meaning.{meanings}
use Rattle.tac_base.specs.Openings.{made}
use Rattle.tac_base.specs.Sites.{env_of, goal_at}
use Rattle.tac_core.proofs.Exacts.{unmet_refused, other_refused, exact_answers}
use Rattle.tac_core.proofs.exact.closed_by.Goals as goal

pub returns-in-Err : goal.returns-in-Err
returns-in-Err c = λ met s. unmet_refused (env_of c.args.site.now) met _ c.in-Err.fault (c.in-Err.ensures met s)

pub returns-then-not-branch : goal.returns-then-not-branch
returns-then-not-branch c = λ met s. other_refused (env_of c.args.site.now) met (meaning c.args.evidence.now.formula) (goal_at c.args.site.now).shown
    (λ h. true≢false (sym (c.in_ok-is_same-in-Ok.ensures.1 h) ∙ c.if-not-branch.true))

pub returns-in_ok-tree-in-Ok : goal.returns-in_ok-tree-in-Ok
returns-in_ok-tree-in-Ok c = λ met s. exact_answers (env_of c.args.site.now) (goal_at c.args.site.now) c.args.evidence.now c.requires.given.0
    c.requires.given.1 met s (record { tree = c.in_ok-tree-in-Ok.tree; put_in = c.new-put_in.result }) (λ i. made (meanings (c.in_ok-tree-in-Ok.ensures i)) (map meaning (c.new-put_in.ensures.items i)))
    (c.in-Ok.ensures met s) (c.in_ok-is_same-in-Ok.ensures.0 c.if-not-branch.false)
