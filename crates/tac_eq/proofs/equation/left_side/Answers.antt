use Rattle.std.proofs.Common.{◌∙◌, arith}
use Rattle.term_core.specs.Term.{meaning}
use Rattle.term_core.specs.declared.term.Term.TheVariants.{Var}
use Rattle.env_core.proofs.Filling.{meaning_Var}
use Rattle.env_core.proofs.Results.{if_ok}
use Rattle.tac_eq.proofs.Equations.{raised_fits, side_raised}
use Rattle.tac_eq.proofs.equation.left_side.Goals as goal

pub shift-requires : goal.shift-requires
shift-requires c = raised_fits c.requires.0 (meaning c.args.t.now) c.args.variables c.requires.1 (omega arith)

pub returns : goal.returns
returns c = if_ok c.equal.result (λ f e. e ∙ side_raised c.args.sort.now (meaning c.args.t.now) (meaning c.in_ok-raised.raised)
    (meaning (Var 0)) c.in_ok-raised.ensures (meaning_Var 0)) c.equal.ensures
