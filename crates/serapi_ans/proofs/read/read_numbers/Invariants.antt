use Rattle.std.proofs.Common.{◌≡◌, ◌++◌, drop, map}
use Rattle.sexp_theory.specs.Values.{values}
use Rattle.sexp_core.specs.Sexp.{meaning}
use Rattle.serapi_ans.specs.ReadBack.{numbers_in}
use Rattle.serapi_ans.proofs.read.read_numbers.Given as goal

abbrev pub invariant-loop-value : goal.invariant-loop-value
invariant-loop-value l = l.ids ++ numbers_in (values (map meaning (drop l.value-index l.each))) ≡ numbers_in (values (map meaning l.each))
