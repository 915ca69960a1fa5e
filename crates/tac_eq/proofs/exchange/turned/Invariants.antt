use Rattle.std.proofs.Common.{◌≡◌, ◌<◌, ℕ, suc, length, map}
use Rattle.fol_theory.specs.Syntax.{var}
use Rattle.match_theory.specs.Instances.{fill}
use Rattle.term_core.specs.Term.{meaning}
use Rattle.tac_eq.proofs.exchange.turned.Given as goal

abbrev pub invariant-loop-i : goal.invariant-loop-i
invariant-loop-i l = record {
  many : length (map meaning l.terms.items) ≡ l.i;
  each : (j : ℕ) → j < l.i → fill (map meaning l.terms.items) j ≡ var (suc j);
}
