use Rattle.std.proofs.Common.{◌≡◌, take}
use Rattle.print_theory.specs.Printing.{arguments_tokens}
use Rattle.term_core.specs.Term.{list_meaning}
use Rattle.term_print.specs.Output.{all_names, put_tokens}
use Rattle.term_print.proofs.printing.+term.Given as goal

abbrev pub invariant-write_arguments-loop-t : goal.invariant-write_arguments-loop-t
invariant-write_arguments-loop-t g l = l.text ≡ put_tokens l.fn.text (arguments_tokens (all_names l.scope)
    (list_meaning (take l.t-index l.ts)))
