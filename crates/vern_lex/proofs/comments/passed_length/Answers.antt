use Rattle.vern_lex.specs.Comments.{begins}
use Rattle.vern_lex.proofs.Outsides.{comment_passed}
use Rattle.vern_lex.proofs.Cuts.{begins-covered}
use Rattle.vern_lex.proofs.comments.passed_length.Goals as goal

pub returns-in_default-clause-place : goal.returns-in_default-clause-place
returns-in_default-clause-place c = comment_passed begins begins-covered c.args.text.now c.known_comment_length.result
    c.known_comment_length.ensures.value
