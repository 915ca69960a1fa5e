use Rattle.std.proofs.Common.{length}
use Rattle.sexp_theory.specs.Writing.{quoted_bytes}
use Rattle.sexp_core.proofs.Putting.{IsPutBut}
use Rattle.sexp_core.proofs.writer.put_quoted.Given as goal

abbrev pub invariant-loop-first : goal.invariant-loop-first
invariant-loop-first g l = IsPutBut l.fn.out (quoted_bytes l.bytes) (quoted_bytes l.rest) l.out

abbrev pub decreases-loop-first : goal.decreases-loop-first
decreases-loop-first g l = length l.rest
