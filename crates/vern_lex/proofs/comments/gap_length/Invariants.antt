use Rattle.std.proofs.Common.{◌≡◌, ◌+◌, ◌-◌, ◌≤◌, length, drop}
use Rattle.vern_lex.specs.Comments.{begins, first_place, outside}
use Rattle.vern_lex.proofs.comments.gap_length.Given as goal

abbrev pub invariant-gap : goal.invariant-gap
invariant-gap l = (first_place begins (outside l.text) ≡ l.at + first_place begins (outside (drop l.at l.text))) × (l.at ≤ length l.text)

abbrev pub decreases-gap : goal.decreases-gap
decreases-gap l = length l.text - l.at
