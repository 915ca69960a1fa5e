use Rattle.std.proofs.Common.{length}
use Rattle.sexp_theory.proofs.Fed as pieced
use Rattle.sexp_theory.proofs.Streams as streams
use Rattle.sexp_theory.proofs.pieces.pieces_are_read_as_one.Goals as goal

pub returns-clause-fed : goal.returns-clause-fed
returns-clause-fed c = λ limit ended u piece. pieced.fed_keeps limit (length u.bytes) ended u piece

pub returns-clause-pieces : goal.returns-clause-pieces
returns-clause-pieces c = λ limit ended u rest items piece h. pieced.pieces items limit ended u rest piece h

pub returns-clause-pieces_end : goal.returns-clause-pieces_end
returns-clause-pieces_end c = λ limit u rest items piece h. pieced.pieces_end items limit u rest piece h

pub returns-clause-taken : goal.returns-clause-taken
returns-clause-taken c = streams.items-taken

pub returns-clause-taken_end : goal.returns-clause-taken_end
returns-clause-taken_end c = streams.end-taken

pub returns-clause-gap : goal.returns-clause-gap
returns-clause-gap c = streams.items-without_gap

pub returns-clause-gap_end : goal.returns-clause-gap_end
returns-clause-gap_end c = streams.end-without_gap

pub returns-clause-joined : goal.returns-clause-joined
returns-clause-joined c = streams.fed-both

pub returns-clause-none : goal.returns-clause-none
returns-clause-none c = streams.items-none

pub returns-clause-offset : goal.returns-clause-offset
returns-clause-offset c = streams.end_offset-taken

pub returns-clause-gap_offset : goal.returns-clause-gap_offset
returns-clause-gap_offset c = streams.end_offset-without_gap

pub returns-clause-last : goal.returns-clause-last
returns-clause-last c = streams.items-last

pub returns-clause-few : goal.returns-clause-few
returns-clause-few c = λ limit ended u. streams.items-few limit ended _ u
