use Rattle.std.proofs.Common.{◌≡◌, ◌+◌, ◌-◌, ◌≤◌, ◌^◌, min, map, drop}
use Rattle.vern_parse.specs.Meaning.{group}
use Rattle.elab_theory.specs.Sizes.{names_in}
use Rattle.elab_core.proofs.size.count_names.Given as goal

abbrev pub invariant-loop-g : goal.invariant-loop-g
invariant-loop-g l = (l.count ≤ 2 ^ 64 - 1) × (min (l.count + names_in (map group (drop l.g-index l.groups))) (2 ^ 64 - 1)
    ≡ min (names_in (map group l.groups)) (2 ^ 64 - 1))
