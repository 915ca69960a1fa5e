use Rattle.std.proofs.Common.{◌≡◌, ℕ, ◌<◌, length, map}
use Rattle.match_theory.specs.Instances.{fill}
use Rattle.term_core.specs.Term.{meaning, list_meaning}
use Rattle.env_theory.specs.Normal.{argument}
use Rattle.tac_eq.proofs.expand.in_order.Given as goal

abbrev pub invariant-loop-i : goal.invariant-loop-i
invariant-loop-i l = record {
  size : length l.terms.items ≡ l.i;
  each : (j : ℕ) → j < l.i → fill (map meaning l.terms.items) j ≡ argument (list_meaning l.ts) j;
}
