use Rattle.std.proofs.Common.{sym, ap, ◌∙◌}
use Rattle.fol_theory.specs.Substitution.{replace_term}
use Rattle.fol_theory.specs.Syntax.{equal}
use Rattle.fol_theory.proofs.AtIndex.{next_raise}
use Rattle.logic_theory.specs.Rules.{step, eq_e}
use Rattle.term_core.specs.Term.{meaning}
use Rattle.match_core.proofs.Lowered.{meaning_Var}
use Rattle.tac_eq.proofs.Marked.{next_reach}
use Rattle.tac_eq.proofs.exchange.turned_rule.Goals as goal

pub shift-requires : goal.shift-requires
shift-requires c = next_reach c.requires.0 c.requires.1 (meaning c.args.from.now) c.args.sort.now c.args.variables c.requires.2 c.requires.3
    c.ranges.variables.fits

pub returns : goal.returns
returns c =
    let shifted = c.in_ok-shifted.ensures ∙ ap (λ ρ. replace_term ρ (meaning c.args.from.now)) (sym next_raise) in
    let body = c.in_ok-body.ensures ∙ (λ i. equal c.args.sort.now (shifted i) (meaning_Var 0 i)) in
    λ i. step (eq_e (c.in_ok-copy.ensures i) (body i) (c.in_ok-copy-2.ensures i) (c.in_ok-copy-3.ensures i))
