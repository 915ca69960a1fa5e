use Rattle.std.proofs.Common.{◌≡◌, drop, map}
use Rattle.vern_parse.specs.Meaning.{group}
use Rattle.env_core.specs.Meaning.{declarations, parameter}
use Rattle.elab_core.specs.Parameters.{groups_added}
use Rattle.elab_core.proofs.define.add_groups.Given as goal

abbrev pub invariant-loop-g : goal.invariant-loop-g
invariant-loop-g l = groups_added (declarations l.env) (map parameter l.params.items) (map group (drop l.g-index l.groups))
    ≡ groups_added (declarations l.env) (map parameter l.initial.params.items) (map group l.groups)
