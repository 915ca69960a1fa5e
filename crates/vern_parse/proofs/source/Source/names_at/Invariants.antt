use Rattle.std.proofs.Common.{◌≡◌, ◌-◌, ◌≤◌, [], length}
use Rattle.vern_sentence.specs.Slots.{cut, names}
use Rattle.vern_parse.specs.Sentences.{names_of}
use Rattle.vern_parse.specs.Sources.{rest}
use Rattle.vern_parse.proofs.source.Source.names_at.Given as goal

abbrev pub invariant-names : goal.invariant-names
invariant-names l = (l.fn.at ≤ l.at) × (cut names (names_of l.names) (rest l.self l.at) ≡ cut names [] (rest l.self l.fn.at))

abbrev pub decreases-names : goal.decreases-names
decreases-names l = length l.self.0 - l.at
