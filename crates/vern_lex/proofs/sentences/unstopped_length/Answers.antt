use Rattle.vern_lex.specs.Sentences.{stops}
use Rattle.vern_lex.proofs.Outsides.{comment_passed}
use Rattle.vern_lex.proofs.Cuts.{stops-covered}
use Rattle.vern_lex.proofs.sentences.unstopped_length.Goals as goal

pub returns-in_default-clause-place : goal.returns-in_default-clause-place
returns-in_default-clause-place c = comment_passed stops stops-covered c.args.text.now c.comment_length.result
    c.comment_length.ensures.value
