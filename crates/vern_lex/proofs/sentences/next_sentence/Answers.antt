use Rattle.std.proofs.Common.{◌∙◌}
use Rattle.vern_lex.proofs.Cuts.{begun, next_is}
use Rattle.vern_lex.proofs.sentences.next_sentence.Goals as goal

pub sentence_at-requires-clause-begun : goal.sentence_at-requires-clause-begun
sentence_at-requires-clause-begun c = begun c.args.text.now c.split_at.result.1.now c.gap_length-gap.result c.gap_length-gap.ensures.value
    c.split_at.ensures.back

pub returns : goal.returns
returns c = c.sentence_at.ensures ∙ next_is c.args.at c.args.text.now c.split_at.result.1.now c.gap_length-gap.result
    c.gap_length-gap.ensures.value c.split_at.ensures.back
