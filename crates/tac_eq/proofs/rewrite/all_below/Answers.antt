use Rattle.std.proofs.Common.{sym, ◌∙◌}
use Rattle.match_theory.specs.Places.{occurs_in_term}
use Rattle.term_core.specs.Term.{meaning}
use Rattle.strip_core.proofs.Taken.{not_all}
use Rattle.tac_eq.proofs.rewrite.all_below.Goals as goal

pub returns-then-not-occurs_in_term : goal.returns-then-not-occurs_in_term
returns-then-not-occurs_in_term c = not_all (λ i. occurs_in_term i (meaning c.args.t.now)) c.args.n c.loop-i.i c.loop-i-test.true
    (sym c.occurs_in_term.ensures ∙ c.if-not-occurs_in_term.true)
