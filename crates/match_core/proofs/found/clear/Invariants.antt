use Rattle.std.proofs.Common.{◌≡◌, take}
use Rattle.match_theory.specs.Matching.{blank}
use Rattle.match_core.specs.Tables.{table}
use Rattle.match_core.proofs.found.clear.Given as goal

abbrev pub invariant-loop-i : goal.invariant-loop-i
invariant-loop-i l = table (take l.i l.found) ≡ blank l.i
