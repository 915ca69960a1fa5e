use Rattle.term_print.specs.Output.{used_names, AreUsed}
use Rattle.term_print.proofs.scope.Scope.free_name_from.Given as goal

abbrev pub invariant-loop-k : goal.invariant-loop-k
invariant-loop-k g l = AreUsed l.fn.name l.k (used_names l.fn.self)
