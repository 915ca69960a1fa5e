use Rattle.std.proofs.Common.{◌+◌, ◌-◌, ◌≤◌, length, drop}
use Rattle.fol_theory.specs.Measures.{depth}
use Rattle.term_core.specs.Formula.{meaning}
use Rattle.env_core.specs.Meaning.{declarations}
use Rattle.form_core.specs.Binders.{binders}
use Rattle.form_core.proofs.indices.declared_binders.Given as goal

abbrev pub invariant-loop-i : goal.invariant-loop-i
invariant-loop-i l = depth (meaning l.a) + binders (declarations (drop (length l.env - l.i) l.env)) ≤ l.binders
