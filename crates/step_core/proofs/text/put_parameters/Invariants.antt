use Rattle.std.proofs.Common.{◌≡◌, ◌++◌, drop, map}
use Rattle.env_core.specs.Meaning.{parameter}
use Rattle.step_theory.specs.Texts.{parameters_text}
use Rattle.step_core.proofs.text.put_parameters.Given as goal

abbrev pub invariant-loop-p : goal.invariant-loop-p
invariant-loop-p l = l.text.items ++ parameters_text (map parameter (drop l.p-index l.params))
    ≡ l.initial.text.items ++ parameters_text (map parameter l.params)
