use Rattle.std.proofs.Common.{◌≡◌, drop}
use Rattle.serapi_ans.specs.ReadBack.{number_from}
use Rattle.serapi_ans.proofs.read.number_from.Given as goal

abbrev pub invariant-loop-digit : goal.invariant-loop-digit
invariant-loop-digit l = number_from l.number (drop l.digit-index l.digits) ≡ number_from 0 l.digits
