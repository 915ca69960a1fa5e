use Rattle.std.proofs.Common.{◌≡◌, ◌-◌, ◌≤◌, length}
use Rattle.match_theory.specs.Matching.{blank}
use Rattle.match_core.specs.Tables.{table}
use Rattle.match_core.proofs.found.blank.Given as goal

abbrev pub decreases-loop-found : goal.decreases-loop-found
decreases-loop-found l = l.open_vars - length l.found.items

abbrev pub invariant-loop-found : goal.invariant-loop-found
invariant-loop-found l = (length l.found.items ≤ l.open_vars) × (table l.found.items ≡ blank (length l.found.items))
