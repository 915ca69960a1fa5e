use Rattle.std.proofs.Common.{drop, map}
use Rattle.sexp_theory.specs.Values.{HaveBytes, values}
use Rattle.sexp_core.specs.Sexp.{meaning}
use Rattle.sexp_core.proofs.sexp.+values_are_of_bytes.Given as goal

abbrev pub invariant-all_are_of_bytes-loop-sexp : goal.invariant-all_are_of_bytes-loop-sexp
invariant-all_are_of_bytes-loop-sexp l = HaveBytes (values (map meaning (drop l.sexp-index l.sexps)))
    → HaveBytes (values (map meaning l.sexps))
