use Rattle.std.proofs.Common.{◌≡◌, ◌+◌, ◌≤◌, ◌^◌, min, max, map, drop}
use Rattle.vern_grammar.specs.Trees.{expressions}
use Rattle.vern_parse.specs.Meaning.{expression}
use Rattle.elab_theory.specs.Sizes.{all_height_in, all_nodes_in}
use Rattle.elab_core.proofs.size.+size.Given as goal

abbrev pub invariant-size_of_all-loop-y : goal.invariant-size_of_all-loop-y
invariant-size_of_all-loop-y l = (l.all.nodes ≤ 2 ^ 32) × (l.all.height ≤ 2 ^ 32)
    × (min (l.all.nodes + all_nodes_in (expressions (map expression (drop l.y-index l.ys)))) (2 ^ 32)
    ≡ min (all_nodes_in (expressions (map expression l.ys))) (2 ^ 32))
    × (min (max l.all.height (all_height_in (expressions (map expression (drop l.y-index l.ys))))) (2 ^ 32)
    ≡ min (all_height_in (expressions (map expression l.ys))) (2 ^ 32))
