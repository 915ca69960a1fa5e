-- What strips stand for.
use Rattle.std.specs.Prelude.{List, map, reverse}
use Rattle.fol_theory.specs.Syntax as theory
use Rattle.tactic_theory.specs.Strips as strips
use Rattle.term_core.specs.Formula.{meaning}
use Rattle.term_core.specs.Term as term
use Rattle.term_core.specs.declared.term.Term.{Term}
use Rattle.std.specs.Global.{Vec}
use Rattle.strip_core.specs.declared.strip.Strip.{Strip}

-- what is left, which has the sorts of the open variables the newest first
abbrev pub strip_of : Strip → strips.Strip
strip_of s = strips.strip (reverse s.sorts.items) (map meaning s.premises.items) (meaning s.rest)

-- what is left, with a term for each open variable, from 0 on
abbrev pub fitted : Strip × Vec Term → strips.Strip × List theory.Term
fitted p = (strip_of p.0, map term.meaning p.1.items)
