use Rattle.std.proofs.Common.{◌≡◌, ◌+◌, ◌-◌, true, false, ap, sym, ◌∙◌, arith}
use Rattle.vern_lex.specs.Comments.{behind, opens_comment, closes_comment}
use Rattle.vern_lex.proofs.Outsides.{behind_opens, behind_closes, behind_byte}
use Rattle.vern_lex.proofs.comments.behind_comment.Goals as goal

pub bytes-preserved-then-opens_comment : goal.bytes-preserved-then-opens_comment
bytes-preserved-then-opens_comment c =
    let rest = c.bytes.rest.now in
    let opens : opens_comment rest ≡ true = sym c.opens_comment.ensures ∙ c.if-opens_comment.true in (
      ap (behind (c.bytes.depth + 1)) c.split_at.ensures.back ∙ behind_opens c.bytes.depth rest c.bytes-test.true opens
          ∙ c.bytes.invariant.0,
      omega arith,
      omega arith,
    )

pub bytes-preserved-then-closes_comment : goal.bytes-preserved-then-closes_comment
bytes-preserved-then-closes_comment c =
    let rest = c.bytes.rest.now in
    let opens : opens_comment rest ≡ false = sym c.opens_comment.ensures ∙ c.if-opens_comment.false in
    let closes : closes_comment rest ≡ true = sym c.closes_comment.ensures ∙ c.if-closes_comment.true in (
      ap (behind (c.bytes.depth - 1)) c.split_at-then-closes_comment.ensures.back
          ∙ behind_closes c.bytes.depth rest c.bytes-test.true opens closes ∙ c.bytes.invariant.0,
      omega arith,
      omega arith,
    )

pub bytes-preserved : goal.bytes-preserved
bytes-preserved c =
    let rest = c.bytes.rest.now in
    let opens : opens_comment rest ≡ false = sym c.opens_comment.ensures ∙ c.if-opens_comment.false in
    let closes : closes_comment rest ≡ false = sym c.closes_comment.ensures ∙ c.if-closes_comment.false in (
      ap (behind c.bytes.depth) c.split_at-else-is_empty.ensures.back ∙ behind_byte c.bytes.depth rest c.bytes-test.true opens closes
          ∙ c.bytes.invariant.0,
      omega arith,
      omega arith,
    )
