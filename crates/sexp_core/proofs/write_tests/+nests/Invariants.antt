use Rattle.std.proofs.Common.{◌≤◌, drop, map}
use Rattle.sexp_theory.specs.Values.{values, nesting_of_all}
use Rattle.sexp_core.specs.Sexp.{meaning}
use Rattle.sexp_core.proofs.write_tests.+nests.Given as goal

abbrev pub invariant-all_nest-loop-sexp : goal.invariant-all_nest-loop-sexp
invariant-all_nest-loop-sexp l = nesting_of_all (values (map meaning (drop l.sexp-index l.sexps))) ≤ l.most
    → nesting_of_all (values (map meaning l.sexps)) ≤ l.most
