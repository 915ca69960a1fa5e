use Rattle.std.proofs.Common.{◌≡◌, true, get_or, length, ◌-◌, Some, sym, ◌∙◌}
use Rattle.vern_lex.specs.Comments.{opens_comment}
use Rattle.vern_lex.proofs.Tables.{table_none, known_table}
use Rattle.vern_lex.proofs.comments.known_comment_length.Goals as goal

pub returns-in-Some-clause-value : goal.returns-in-Some-clause-value
returns-in-Some-clause-value c =
    let some : c.args.table ≡ Some c.in-Some.closers = cc in
    let opens : opens_comment c.args.text.now ≡ true = sym c.opens_comment.ensures ∙ c.if-opens_comment.true in
    let nothing : get_or c.in-Some.closers.now (length c.args.text.now - 2) 0 ≡ 0 = sym c.closers_inside.ensures
    ∙ c.if-closers_inside-eq0.true in
    sym (table_none c.args.text.now c.in-Some.closers.now
    (known_table c.args.text.now c.args.table c.in-Some.closers some c.requires) opens nothing)
