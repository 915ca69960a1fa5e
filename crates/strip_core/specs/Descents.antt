-- What descents stand for, and the one along a strip.
use Rattle.std.specs.Prelude.{◌+◌, List, map, reverse, length}
use Rattle.fol_theory.specs.Syntax.{Term, Formula}
use Rattle.env_theory.specs.Declarations.{Declaration}
use Rattle.proof_tree.specs.Meaning.{meanings}
use Rattle.tactic_theory.specs.Strips.{Strip}
use Rattle.term_core.specs.Formula.{meaning}
use Rattle.strip_core.specs.Trees as theory
use Rattle.strip_core.specs.declared.tree.Descent.{Descent}

-- a descent, which has the first strip's rule first
abbrev pub descent_of : Descent → theory.Descent
descent_of d = theory.descent (meanings (reverse d.heads.items)) (map meaning d.premises.items) (meaning d.rest)

-- what a formula comes to behind the strips of one, with a term for each open variable, from the newest on
abbrev pub stripped : List Declaration → Formula → Strip → List Term → theory.Descent
stripped E a s ts = theory.descend (length s.sorts + length s.premises) E (reverse ts) (theory.unstripped a)
