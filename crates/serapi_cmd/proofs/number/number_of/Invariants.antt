use Rattle.serapi_cmd.proofs.Digits.{IsRead}
use Rattle.serapi_cmd.proofs.number.number_of.Given as goal

abbrev pub invariant-loop-digit : goal.invariant-loop-digit
invariant-loop-digit l = IsRead l.digits l.digit-index l.number
