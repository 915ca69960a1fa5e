use Rattle.std.proofs.Common.{◌≡◌}
use Rattle.term_core.specs.Formula.{meaning}
use Rattle.env_theory.specs.Machine.{formula_left}
use Rattle.env_theory.specs.Heads.{head_form}
use Rattle.env_core.specs.Meaning.{declarations}
use Rattle.env_core.specs.Filled.{scope_of, formula_filled}
use Rattle.env_core.proofs.head.head_of.Given as goal

abbrev pub invariant-loop-head : goal.invariant-loop-head
invariant-loop-head l = formula_filled (scope_of l.frames.items) 0 (head_form (declarations l.env) (meaning l.head))
    ≡ formula_filled (scope_of l.fn.frames.items) 0 (head_form (declarations l.env) (meaning l.fn.a))

abbrev pub decreases-loop-head : goal.decreases-loop-head
decreases-loop-head l = formula_left (declarations l.env) (scope_of l.frames.items) (meaning l.head)
