use Rattle.env_core.specs.Meaning.{declarations}
use Rattle.term_core.specs.Formula.{meaning}
use Rattle.step_core.proofs.Keeping.{never_refused}
use Rattle.step_core.proofs.closer.check_tree.Goals as goal

pub unreachable-requires : goal.unreachable-requires
unreachable-requires c =
    let l = c.args.lemma.now in
    never_refused (declarations c.args.env.now) (meaning l.formula) (meaning c.in_ok-copy.field-0) l.state _ c.in_ok-check.field-0
    c.requires.lemma.fits c.requires.finished c.in_ok-copy.ensures c.tree.ensures c.in_ok-check.ensures.proof c.if-branch.false
