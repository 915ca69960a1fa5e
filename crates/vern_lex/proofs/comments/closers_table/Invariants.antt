use Rattle.vern_lex.proofs.Tables.{IsBegun}
use Rattle.vern_lex.proofs.comments.closers_table.Given as goal

abbrev pub invariant-ends : goal.invariant-ends
invariant-ends l = IsBegun l.text l.table.items l.place l.next l.second

abbrev pub decreases-ends : goal.decreases-ends
decreases-ends l = l.place
