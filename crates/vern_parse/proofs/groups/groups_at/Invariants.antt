use Rattle.std.proofs.Common.{◌≡◌, ◌-◌, length}
use Rattle.vern_sentence.specs.Slots.{between, cut, groups}
use Rattle.vern_sentence.specs.Patterns.{part_front}
use Rattle.vern_parse.proofs.Grouped.{grouped}
use Rattle.vern_parse.specs.Sentences.{groups_of}
use Rattle.vern_parse.specs.Sources.{rest}
use Rattle.vern_parse.proofs.groups.groups_at.Given as goal

abbrev pub invariant-groups : goal.invariant-groups
invariant-groups l = grouped (cut groups (between (groups_of l.groups)) (rest l.source l.at)) ≡ part_front groups (rest l.source l.fn.at)

abbrev pub decreases-groups : goal.decreases-groups
decreases-groups l = length l.source.0 - l.at
