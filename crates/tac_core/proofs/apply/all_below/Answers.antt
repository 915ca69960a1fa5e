use Rattle.std.proofs.Common.{sym, ◌∙◌}
use Rattle.match_theory.specs.Places.{occurs}
use Rattle.term_core.specs.Formula.{meaning}
use Rattle.strip_core.proofs.Taken.{not_all}
use Rattle.tac_core.proofs.apply.all_below.Goals as goal

pub returns-then-not-occurs : goal.returns-then-not-occurs
returns-then-not-occurs c =
    not_all (λ i. occurs i (meaning c.args.a.now)) c.args.n c.loop-i.i c.loop-i-test.true (sym c.occurs.ensures ∙ c.if-not-occurs.true)
