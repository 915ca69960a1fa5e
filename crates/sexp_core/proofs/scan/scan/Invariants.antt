use Rattle.sexp_core.specs.State.{state_of}
use Rattle.sexp_core.proofs.Scanning.{Reached}
use Rattle.sexp_core.proofs.scan.scan.Given as goal

abbrev pub invariant-loop-n : goal.invariant-loop-n
invariant-loop-n l = Reached l.limit l.from l.seen (state_of l.initial.machine) l.item l.n (state_of l.machine)
