use Rattle.std.proofs.Common.{sym, ◌∙◌}
use Rattle.vern_lex.proofs.Cuts.{bullet-length}
use Rattle.vern_lex.proofs.sentences.sentence_length.Goals as goal

pub returns-in-len1-up-2-clause-value : goal.returns-in-len1-up-2-clause-value
returns-in-len1-up-2-clause-value c =
    bullet-length c.args.at c.run_length.result c.args.text.now c.requires.begun (sym c.is_brace.ensures
    ∙ c.if-is_brace.false) (sym c.is_bullet.ensures ∙ c.if-is_bullet.true) c.run_length.ensures.count
