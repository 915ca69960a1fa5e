use Rattle.std.proofs.Common.{true≢false, sym, ◌∙◌}
use Rattle.term_core.specs.Term.{meaning}
use Rattle.tac_base.specs.Openings.{opening}
use Rattle.tac_base.specs.Sites.{env_of, goal_at}
use Rattle.tac_eq.proofs.Equations.{left_over, right_over, by_reflexivity, not_by_reflexivity}
use Rattle.tac_eq.proofs.equation.by_sides.Goals as goal

pub is_same_term-requires-clause-first : goal.is_same_term-requires-clause-first
is_same_term-requires-clause-first c = left_over (env_of c.args.site.now) (goal_at c.args.site.now) c.args.site.now.variables c.requires.ready
    c.args.sort.now (meaning c.args.t.now) (meaning c.args.u.now) c.requires.head

pub is_same_term-requires-clause-second : goal.is_same_term-requires-clause-second
is_same_term-requires-clause-second c = right_over (env_of c.args.site.now) (goal_at c.args.site.now) c.args.site.now.variables c.requires.ready
    c.args.sort.now (meaning c.args.t.now) (meaning c.args.u.now) c.requires.head

pub returns-then-not-branch : goal.returns-then-not-branch
returns-then-not-branch c = not_by_reflexivity (env_of c.args.site.now) (goal_at c.args.site.now) c.args.site.now.variables c.requires.ready
    c.args.sort.now (meaning c.args.t.now) (meaning c.args.u.now) c.requires.head
    (λ k. true≢false (sym (c.in_ok-is_same_term.ensures.1 k) ∙ c.if-not-branch.true))

pub returns : goal.returns
returns c = by_reflexivity (env_of c.args.site.now) (goal_at c.args.site.now) c.args.site.now.variables c.requires.ready
    c.args.sort.now (meaning c.args.t.now) (meaning c.args.u.now) c.requires.head
    (c.in_ok-is_same_term.ensures.0 c.if-not-branch.false) (opening c.in_ok-made.made) c.in_ok-made.ensures
