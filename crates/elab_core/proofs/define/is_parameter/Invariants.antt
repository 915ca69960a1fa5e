use Rattle.std.proofs.Common.{◌≡◌, drop, map}
use Rattle.env_core.specs.Meaning.{parameter}
use Rattle.elab_theory.specs.Sentences.{is_among, names_of}
use Rattle.elab_core.proofs.define.is_parameter.Given as goal

abbrev pub invariant-loop-other : goal.invariant-loop-other
invariant-loop-other l = is_among l.name (names_of (map parameter (drop l.other-index l.params)))
    ≡ is_among l.name (names_of (map parameter l.params))
