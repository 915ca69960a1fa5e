use Rattle.std.proofs.Common.{◌∙◌}
use Rattle.vern_lex.proofs.Lexing.{next_token_is}
use Rattle.vern_lex.proofs.sentence_tokens.next_token.Goals as goal

pub returns : goal.returns
returns c = c.token_at.ensures ∙ next_token_is c.args.at c.args.text.now c.split_at.result.1.now c.gap_length-gap.result
    c.gap_length-gap.ensures.value c.split_at.ensures.back
