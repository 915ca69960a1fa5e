use Rattle.std.proofs.Common.{◌≡◌, ◌++◌, drop, map}
use Rattle.env_core.specs.Meaning.{parameter}
use Rattle.step_core.proofs.text.names_back.Given as goal

abbrev pub invariant-loop-p : goal.invariant-loop-p
invariant-loop-p l = l.names.items ++ map (λ p. p.name) (map parameter (drop l.p-index l.params)) ≡ map (λ p. p.name) (map parameter l.params)
