use Rattle.std.proofs.Common.{◌≡◌, ℕ, ◌<◌, ◌++◌, true, decimal}
use Rattle.term_core.specs.Context.{slots}
use Rattle.env_core.specs.Meaning.{declarations}
use Rattle.tactic_theory.specs.Names.{is_taken}
use Rattle.tac_base.proofs.names.first_free.Given as goal

abbrev pub invariant-loop-k : goal.invariant-loop-k
invariant-loop-k l = (j : ℕ) → j < l.k → is_taken (declarations l.fn.env) (slots l.fn.context) (l.fn.name ++ decimal j) ≡ true
