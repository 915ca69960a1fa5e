use Rattle.std.proofs.Common.{◌≡◌, Some, None, sym, subst, ◌∙◌, arith}
use Rattle.vern_lex.specs.Tokens.{next_token}
use Rattle.vern_lex.proofs.Lexing.{IsRead, read-grown, read-done}
use Rattle.vern_lex.proofs.sentence_tokens.other_tokens.Goals as goal

pub tokens-smaller : goal.tokens-smaller
tokens-smaller c =
    let next : next_token c.tokens.at c.split_at.result.1.now ≡ Some c.in-Some.token = cc in
    let grown = read-grown c.args.sentence.now c.split_at.result.1.now c.tokens.found.items c.tokens.at c.in-Some.token c.tokens.invariant.0
    c.split_at.ensures.back next in
    omega (arith, grown.1, grown.0.within)

pub tokens-preserved : goal.tokens-preserved
tokens-preserved c =
    let next : next_token c.tokens.at c.split_at.result.1.now ≡ Some c.in-Some.token = cc in
    let grown = read-grown c.args.sentence.now c.split_at.result.1.now c.tokens.found.items c.tokens.at c.in-Some.token c.tokens.invariant.0
    c.split_at.ensures.back next in (
      subst (λ found. IsRead c.args.sentence.now found c.in-Some.token.span.to) (sym c.in_ok-push.ensures.items) grown.0,
      c.tokens.invariant.1,
    )

pub tokens-smaller-then-opens_comment_at : goal.tokens-smaller-then-opens_comment_at
tokens-smaller-then-opens_comment_at c =
    let next : next_token c.tokens.at c.split_at.result.1.now ≡ Some c.in-Some.token = cc in
    let grown = read-grown c.args.sentence.now c.split_at.result.1.now c.tokens.found.items c.tokens.at c.in-Some.token c.tokens.invariant.0
    c.split_at.ensures.back next in
    omega (arith, grown.1, grown.0.within)

pub tokens-preserved-then-opens_comment_at : goal.tokens-preserved-then-opens_comment_at
tokens-preserved-then-opens_comment_at c =
    let next : next_token c.tokens.at c.split_at.result.1.now ≡ Some c.in-Some.token = cc in
    let grown = read-grown c.args.sentence.now c.split_at.result.1.now c.tokens.found.items c.tokens.at c.in-Some.token c.tokens.invariant.0
    c.split_at.ensures.back next in (
      subst (λ found. IsRead c.args.sentence.now found c.in-Some.token.span.to) (sym c.in_ok-push.ensures.items) grown.0,
      c.in_ok-closers_table.ensures,
    )

pub returns : goal.returns
returns c =
    let next : next_token c.tokens.at c.split_at.result.1.now ≡ None = cc in
    c.from_vec.ensures ∙ read-done c.args.sentence.now c.split_at.result.1.now c.tokens.found.items c.tokens.at c.tokens.invariant.0
    c.split_at.ensures.back next
