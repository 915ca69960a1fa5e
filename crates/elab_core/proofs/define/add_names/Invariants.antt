use Rattle.std.proofs.Common.{◌≡◌, drop, map}
use Rattle.vern_parse.specs.Meaning.{name}
use Rattle.env_core.specs.Meaning.{parameter}
use Rattle.elab_core.specs.Parameters.{names_added}
use Rattle.elab_core.proofs.define.add_names.Given as goal

abbrev pub invariant-loop-x : goal.invariant-loop-x
invariant-loop-x l = names_added (map parameter l.params.items) l.sort (map name (drop l.x-index l.names))
    ≡ names_added (map parameter l.initial.params.items) l.sort (map name l.names)
