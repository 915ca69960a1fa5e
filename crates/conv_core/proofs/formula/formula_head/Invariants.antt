use Rattle.std.proofs.Common.{◌≡◌, ◌≤◌}
use Rattle.term_core.specs.Formula.{meaning}
use Rattle.env_theory.specs.Scopes.{formula_value}
use Rattle.env_theory.specs.Machine.{formula_left}
use Rattle.env_core.specs.Meaning.{declarations}
use Rattle.conv_core.specs.Frames.{scope_of, Extends}
use Rattle.conv_core.specs.Formulas.{StandingFormula}
use Rattle.conv_core.proofs.formula.formula_head.Given as goal

abbrev pub invariant-loop-opened : goal.invariant-loop-opened
invariant-loop-opened l =
    StandingFormula (declarations l.env) l.frames.items l.scope (meaning l.a) × Extends l.fn.frames.items l.frames.items ×
    (formula_value (declarations l.env) (scope_of l.frames.items l.scope) (meaning l.a)
    ≡ formula_value (declarations l.env) (scope_of l.fn.frames.items l.fn.scope) (meaning l.fn.formula)) ×
    (formula_left (declarations l.env) (scope_of l.frames.items l.scope) (meaning l.a) ≤ formula_left (declarations l.env)
    (scope_of l.fn.frames.items l.fn.scope) (meaning l.fn.formula))

abbrev pub decreases-loop-opened : goal.decreases-loop-opened
decreases-loop-opened l = formula_left (declarations l.env) (scope_of l.frames.items l.scope) (meaning l.a)
