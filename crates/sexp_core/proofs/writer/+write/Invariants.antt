use Rattle.std.proofs.Common.{◌<◌, drop, map}
use Rattle.sexp_theory.specs.Values.{values, nesting_of_all}
use Rattle.sexp_theory.specs.Writing.{texts}
use Rattle.sexp_core.specs.Sexp.{meaning}
use Rattle.sexp_core.proofs.Putting.{IsPutBut, texts_after}
use Rattle.sexp_core.proofs.writer.+write.Given as goal

abbrev pub invariant-write_all-loop-sexp : goal.invariant-write_all-loop-sexp
invariant-write_all-loop-sexp g l = record {
  put : IsPutBut l.fn.out (texts (values (map meaning l.sexps))) (texts_after l.before (values (map meaning (drop l.sexp-index l.sexps))))
      l.out;
  deep : nesting_of_all (values (map meaning (drop l.sexp-index l.sexps))) < 256;
}
