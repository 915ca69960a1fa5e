use Rattle.std.specs.Arc.{arc_value}
use Rattle.std.proofs.Common.{◌+◌, ◌*◌}
use Rattle.term_core.specs.Formula.{meaning}
use Rattle.env_theory.specs.Scopes.{under}
use Rattle.env_theory.specs.Machine.{formula_left}
use Rattle.env_core.specs.Meaning.{declarations}
use Rattle.conv_core.specs.Frames.{scope_of}
use Rattle.conv_core.proofs.formula.+formula.Given as goal

abbrev pub decreases-read_formula : goal.decreases-read_formula
decreases-read_formula l = 3 * formula_left (declarations l.env.now) (scope_of l.frames.now.items l.scope) (meaning l.a.now) + 1

abbrev pub decreases-read_top : goal.decreases-read_top
decreases-read_top l = 3 * formula_left (declarations l.env.now) (scope_of l.frames.now.items l.scope) (meaning l.a.now)

abbrev pub decreases-read_boxed : goal.decreases-read_boxed
decreases-read_boxed l = 3 * formula_left (declarations l.env.now) (scope_of l.frames.now.items l.scope) (meaning (arc_value l.a.now)) + 2

abbrev pub decreases-read_below : goal.decreases-read_below
decreases-read_below l = 3 * formula_left (declarations l.env.now) (under (scope_of l.frames.now.items l.scope)) (meaning
    (arc_value l.a.now)) + 2
