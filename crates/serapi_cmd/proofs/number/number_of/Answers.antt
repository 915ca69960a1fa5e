use Rattle.std.proofs.Common.{rules, sym, ◌∙◌}
use Rattle.serapi_cmd.proofs.Digits.{read_more, read_fails, read_all}
use Rattle.serapi_cmd.proofs.number.number_of.Goals as goal

pub returns-in_err-number : goal.returns-in_err-number
returns-in_err-number c = c.from_residual.ensures
    ∙ read_fails c.args.digits.now _ _ c.loop-digit-test.true c.loop-digit.invariant (sym (c.in_err-number.was) ∙ c.with_digit.ensures)

pub loop-digit-preserved : goal.loop-digit-preserved
loop-digit-preserved c = read_more c.args.digits.now _ _ _ c.loop-digit-test.true c.loop-digit.invariant (sym (c.in_ok-number.was)
    ∙ c.with_digit.ensures)

pub returns : goal.returns
returns c = read_all c.args.digits.now _ _ (search rules) c.loop-digit-test.false c.loop-digit.invariant
