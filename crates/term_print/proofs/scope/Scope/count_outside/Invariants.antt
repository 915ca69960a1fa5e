use Rattle.term_print.specs.Output.{names_outside, AreUsed}
use Rattle.term_print.proofs.scope.Scope.count_outside.Given as goal

abbrev pub invariant-loop-k : goal.invariant-loop-k
invariant-loop-k g l = AreUsed l.fn.name l.k (names_outside l.fn.self)
