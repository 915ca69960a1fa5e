use Rattle.std.proofs.Common.{◌≡◌, ◌+◌, ◌-◌, ◌≤◌, length, drop}
use Rattle.vern_lex.specs.Comments.{first_place, outside}
use Rattle.vern_lex.specs.Sentences.{stops}
use Rattle.vern_lex.proofs.sentences.stop_place.Given as goal

abbrev pub invariant-bytes : goal.invariant-bytes
invariant-bytes l = (first_place stops (outside l.text) ≡ l.at + first_place stops (outside (drop l.at l.text))) × (l.at ≤ length l.text)

abbrev pub decreases-bytes : goal.decreases-bytes
decreases-bytes l = length l.text - l.at
