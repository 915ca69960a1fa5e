-- What is known of the open variables of a pattern while it is matched.
use Rattle.std.specs.Prelude.{Bool, if◌then◌else◌, List, map, Option, Some, None, option_map}
use Rattle.fol_theory.specs.Syntax.{Term, var}
use Rattle.fol_theory.specs.Substitution.{replace_term}
use Rattle.match_theory.specs.Matching.{chosen}
use Rattle.term_core.specs.Term.{meaning}
use Rattle.match_core.specs.Moves.{lowering}
use Rattle.match_core.specs.declared.found.Found.{Found}

-- the term that was found: one that stands in the target, without the newest variables there
abbrev pub found_term : Found → Term
found_term f = replace_term (lowering f.binders) (meaning f.term.now)

-- the term of an open variable, the variable 0 where nothing is known
abbrev pub choice : Option Found → Term
choice None = var 0
choice (Some f) = found_term f

-- what is known of each open variable, from 0
abbrev pub table : List (Option Found) → List (Option Term)
table xs = map (option_map found_term) xs

-- what a match leaves known, where it goes well
abbrev pub told : Bool → List (Option Found) → Option (List (Option Term))
told r xs = if r then Some (table xs) else None

-- the same with a term for each variable
abbrev pub picked : Bool → List (Option Found) → Option (List Term)
picked r xs = if r then Some (chosen (table xs)) else None
