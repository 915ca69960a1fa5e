use Rattle.std.proofs.Common.{◌≡◌, map, take}
use Rattle.term_core.specs.Term.{meaning}
use Rattle.match_theory.specs.Matching.{chosen}
use Rattle.match_core.specs.Tables.{table}
use Rattle.match_core.proofs.found.chosen.Given as goal

abbrev pub invariant-loop-known : goal.invariant-loop-known
invariant-loop-known l = map meaning l.terms.items ≡ chosen (table (take l.known-index l.found))
