use Rattle.std.proofs.Common.{◌≡◌, ◌+◌, ◌≤◌, length}
use Rattle.vern_lex.specs.Comments.{behind}
use Rattle.vern_lex.proofs.comments.behind_comment.Given as goal

abbrev pub invariant-bytes : goal.invariant-bytes
invariant-bytes l = (behind l.depth l.rest ≡ behind 1 l.text) × (l.depth + length l.rest ≤ length l.text + 1)
    × (length l.rest ≤ length l.text)

abbrev pub decreases-bytes : goal.decreases-bytes
decreases-bytes l = length l.rest
