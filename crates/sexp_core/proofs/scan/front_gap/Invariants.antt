use Rattle.sexp_core.proofs.Gaps.{Passed}
use Rattle.sexp_core.proofs.scan.front_gap.Given as goal

abbrev pub invariant-loop-len : goal.invariant-loop-len
invariant-loop-len l = Passed l.bytes l.skipping l.len l.in_line
